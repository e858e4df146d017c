use Rattle.std.proofs.Common.{◌≡◌, length, ap, ◌∙◌, arith}
use Rattle.sg_journal.specs.BatchValue.{BatchValue}
use Rattle.sg_target.specs.Target.{disk_of}
use Rattle.sg_kept.proofs.CompactionLemmas.{kept-afresh}
use Rattle.sg_kept.proofs.disk.KeptDisk.abandon_compaction.Goals as goal

pub returns-clause-usable : goal.returns-clause-usable
returns-clause-usable g c =
    let old = c.args.self.now in
    let s = c.requires.compacting.1 in
    let empty = ap (λ (b : BatchValue). b.records) c.clear.ensures in
    let none : length c.clear.new.self.records ≡ 0 = ap length empty in
    record {
      kept = kept-afresh g.D.Device.seen g.D.Device.may_leave old.journal c.clear.new.self
          (disk_of old.target) s.stands empty
          (ap (λ (b : BatchValue). b.sector) c.clear.ensures ∙ s.drafts.drafted.sector) s.limits;
      room = omega (arith, none);
      scratch = s.scratch;
    }
