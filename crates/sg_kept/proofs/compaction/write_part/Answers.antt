use Rattle.std.proofs.Common.{◌≡◌, ◌-◌, ◌^◌, ◌<◌, length, ap, arith, rules}
use Rattle.std.specs.FinMap.{len}
use Rattle.sg_changes.proofs.SoundLemmas.{len-unmapped}
use Rattle.sg_changes.specs.Snapshot.{kept_below}
use Rattle.sg_target.specs.Config.{ConfigFields}
use Rattle.sg_target.specs.State.{State}
use Rattle.sg_target.specs.Target.{disk_of}
use Rattle.sg_kept.specs.Kept.{kept}
use Rattle.sg_kept.proofs.CompactionLemmas.{drafted-more, drafted-whole}
use Rattle.sg_kept.proofs.compaction.write_part.Goals as goal

pub draft_batch-requires-clause-drafted : goal.draft_batch-requires-clause-drafted
draft_batch-requires-clause-drafted g c =
    let k = kept (disk_of c.args.target.now) in (
      kept_below k c.fill_batch-next.result,
      drafted-more g.D.Device.seen g.D.Device.may_leave g.D.Device.draft c.records_are_replayed.ensures
          c.first_records_are_exact.ensures c.args.journal.now c.args.batch.now c.fill_batch-next.new.batch
          (kept_below k c.args.from) (kept_below k c.fill_batch-next.result) c.requires.draft.drafted
          c.fill_batch-next.ensures.records,
    )

pub draft_batch-requires-clause-short : goal.draft_batch-requires-clause-short
draft_batch-requires-clause-short g c =
    let disk = c.args.target.now.state.disk in
    let fewer = len-unmapped disk.contents c.args.from (disk.capacity - c.args.from) in
    let used : c.used_blocks.result < 2 ^ 32 = search rules in
    let of_it : c.used_blocks.result ≡ len disk.contents = c.used_blocks.ensures in
    omega (arith, c.requires.draft.weight, fewer, used, of_it)

pub returns-then-next-blocks-clause-part : goal.returns-then-next-blocks-clause-part
returns-then-next-blocks-clause-part g c =
    let k = kept (disk_of c.args.target.now) in
    let filled = c.fill_batch-next.ensures in
    let done = c.in_ok-draft_batch.ensures in
    let whole : c.config.result.now.blocks ≡ c.fill_batch-next.new.target.state.disk.capacity =
    ap (λ (x : ConfigFields). x.blocks) c.config.ensures in
    let capacity : c.fill_batch-next.new.target.state.disk.capacity
    ≡ c.args.target.now.state.disk.capacity = ap (λ (s : State). s.disk.capacity) filled.state in
    let before : c.fill_batch-next.result < c.args.target.now.state.disk.capacity =
    omega (arith, c.if-next-blocks.true, whole, capacity, c.blocks-2.ensures.value) in
    let full = filled.full before in
    let none : length c.draft_batch.new.batch.records ≡ 0 = ap length done.empty in
    record {
      further = filled.more (omega (arith, filled.no_less, before));
      same = done.same;
      waiting = done.waiting;
      drafts = record {
        drafted = done.drafted (kept_below k c.fill_batch-next.result)
            (drafted-more g.D.Device.seen g.D.Device.may_leave g.D.Device.draft
            c.records_are_replayed.ensures c.first_records_are_exact.ensures c.args.journal.now
            c.args.batch.now c.fill_batch-next.new.batch (kept_below k c.args.from)
            (kept_below k c.fill_batch-next.result) c.requires.draft.drafted filled.records);
        within = filled.within;
        room = omega (arith, none);
        weight = omega (arith, done.at_most, filled.at_most, full, c.requires.draft.weight);
      };
    }

pub exchange-requires-clause-drafted : goal.exchange-requires-clause-drafted
exchange-requires-clause-drafted g c =
    let k = kept (disk_of c.args.target.now) in (
      kept_below k c.fill_batch-next.result,
      drafted-more g.D.Device.seen g.D.Device.may_leave g.D.Device.draft c.records_are_replayed.ensures
          c.first_records_are_exact.ensures c.args.journal.now c.args.batch.now c.fill_batch-next.new.batch
          (kept_below k c.args.from) (kept_below k c.fill_batch-next.result) c.requires.draft.drafted
          c.fill_batch-next.ensures.records,
    )

pub exchange-requires-clause-short : goal.exchange-requires-clause-short
exchange-requires-clause-short g c =
    let disk = c.args.target.now.state.disk in
    let fewer = len-unmapped disk.contents c.args.from (disk.capacity - c.args.from) in
    let used : c.used_blocks.result < 2 ^ 32 = search rules in
    let of_it : c.used_blocks.result ≡ len disk.contents = c.used_blocks.ensures in
    omega (arith, c.requires.draft.weight, fewer, used, of_it)

pub returns-in_err-exchange-clause-any_moment : goal.returns-in_err-exchange-clause-any_moment
returns-in_err-exchange-clause-any_moment g c =
    let k = kept (disk_of c.args.target.now) in
    let filled = c.fill_batch-next.ensures in
    let whole : c.config.result.now.blocks ≡ c.fill_batch-next.new.target.state.disk.capacity =
    ap (λ (x : ConfigFields). x.blocks) c.config.ensures in
    let capacity : c.fill_batch-next.new.target.state.disk.capacity ≡ k.disk.capacity =
    ap (λ (s : State). s.disk.capacity) filled.state in
    let end : c.fill_batch-next.result ≡ k.disk.capacity = omega
    (arith, filled.within, c.if-next-blocks.false, whole, capacity, c.blocks-2.ensures.value) in
    let all = drafted-whole g.D.Device.seen g.D.Device.may_leave g.D.Device.draft
    c.records_are_replayed.ensures c.first_records_are_exact.ensures c.runs_make_the_disk.ensures
    c.args.journal.now c.args.batch.now c.fill_batch-next.new.batch k c.args.from c.fill_batch-next.result
    c.requires.draft.drafted filled.records end in
    c.exchange.ensures.any_moment k all

pub returns-clause-part : goal.returns-clause-part
returns-clause-part g c =
    let k = kept (disk_of c.args.target.now) in
    let filled = c.fill_batch-next.ensures in
    let whole : c.config.result.now.blocks ≡ c.fill_batch-next.new.target.state.disk.capacity =
    ap (λ (x : ConfigFields). x.blocks) c.config.ensures in
    let capacity : c.fill_batch-next.new.target.state.disk.capacity ≡ k.disk.capacity =
    ap (λ (s : State). s.disk.capacity) filled.state in
    let end : c.fill_batch-next.result ≡ k.disk.capacity = omega
    (arith, filled.within, c.if-next-blocks.false, whole, capacity, c.blocks-2.ensures.value) in
    let all = drafted-whole g.D.Device.seen g.D.Device.may_leave g.D.Device.draft
    c.records_are_replayed.ensures c.first_records_are_exact.ensures c.runs_make_the_disk.ensures
    c.args.journal.now c.args.batch.now c.fill_batch-next.new.batch k c.args.from c.fill_batch-next.result
    c.requires.draft.drafted filled.records end in
    let done = c.in_ok-exchange.ensures in
    let disk = c.args.target.now.state.disk in
    let next = c.fill_batch-next.result in
    let fewer = len-unmapped disk.contents next (disk.capacity - next) in
    record {
      stands = done.stands k all;
      empty = done.empty;
      sector = done.sector;
      short = omega
          (arith, done.end, c.fill_batch-next.ensures.at_most, c.requires.draft.weight, fewer);
      length = done.length;
    }

pub returns-clause-any_moment : goal.returns-clause-any_moment
returns-clause-any_moment g c =
    let k = kept (disk_of c.args.target.now) in
    let filled = c.fill_batch-next.ensures in
    let whole : c.config.result.now.blocks ≡ c.fill_batch-next.new.target.state.disk.capacity =
    ap (λ (x : ConfigFields). x.blocks) c.config.ensures in
    let capacity : c.fill_batch-next.new.target.state.disk.capacity ≡ k.disk.capacity =
    ap (λ (s : State). s.disk.capacity) filled.state in
    let end : c.fill_batch-next.result ≡ k.disk.capacity = omega
    (arith, filled.within, c.if-next-blocks.false, whole, capacity, c.blocks-2.ensures.value) in
    let all = drafted-whole g.D.Device.seen g.D.Device.may_leave g.D.Device.draft
    c.records_are_replayed.ensures c.first_records_are_exact.ensures c.runs_make_the_disk.ensures
    c.args.journal.now c.args.batch.now c.fill_batch-next.new.batch k c.args.from c.fill_batch-next.result
    c.requires.draft.drafted filled.records end in
    c.exchange.ensures.any_moment k all
