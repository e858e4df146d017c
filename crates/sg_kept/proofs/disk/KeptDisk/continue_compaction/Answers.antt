use Rattle.std.proofs.Common.{◌≡◌, length, sym, ap, subst, ◌∙◌, arith}
use Rattle.std.proofs.lemmas.List.{with_items_is}
use Rattle.sg_target.specs.Armed.{Armed}
use Rattle.sg_target.specs.Target.{disk_of}
use Rattle.sg_kept.specs.Disk.{IsKept}
use Rattle.sg_kept.specs.Kept.{kept}
use Rattle.sg_kept.specs.Opened.{opened}
use Rattle.sg_kept.proofs.CompactionLemmas.{if-none, part-opened, part-usable, same-disk, steady-filed}
use Rattle.sg_kept.proofs.CompactionLemmas.{still-or}
use Rattle.sg_kept.proofs.MomentsLemmas.{weaker}
use Rattle.sg_kept.proofs.disk.KeptDisk.continue_compaction.Goals as goal

pub write_part-requires-clause-sound : goal.write_part-requires-clause-sound
write_part-requires-clause-sound g c =
    let s = c.requires.compacting.stands in
    let k = kept (disk_of c.args.self.now.target) in
    (steady-filed c.kept_stays_sound.ensures s.batches k s.files).sound.disk

pub returns-in-Ok-clause-usable : goal.returns-in-Ok-clause-usable
returns-in-Ok-clause-usable g c =
    let old = c.args.self.now in
    let whole : length c.write_part.new.scratch ≡ length old.scratch.items =
    c.write_part.ensures.scratch ∙ ap length c.deref_mut.ensures.value in
    let same : length c.write_part.new.scratch ≡ old.scratch.len = omega (arith, whole, old.scratch.ok) in
    let scratch = ap length (with_items_is old.scratch c.write_part.new.scratch same)
    ∙ whole ∙ c.requires.compacting.scratch in
    if-none c.in-Ok.next
    (part-usable g.D.Device.seen g.D.Device.may_leave g.D.Device.draft old.journal
    c.write_part.new.journal c.write_part.new.batch (disk_of old.target) c.args.from c.in-Ok.next
    c.requires.compacting.limits c.in-Ok.ensures.part)
    (λ done. (
      c.requires.compacting.alive,
      record {
        kept = subst (λ (d : Armed). IsKept g.D.Device.seen g.D.Device.may_leave c.write_part.new.journal
            c.write_part.new.batch d)
            (sym (same-disk c.write_part.new.target old.target c.write_part.ensures.state
            c.write_part.ensures.faults)) done.0;
        room = done.1;
        scratch = scratch;
      },
    ))

pub returns-in-Ok-clause-in_file : goal.returns-in-Ok-clause-in_file
returns-in-Ok-clause-in_file g c =
    let old = c.args.self.now in
    part-opened g.D.Device.seen g.D.Device.may_leave g.D.Device.draft old.journal
    c.write_part.new.journal c.write_part.new.batch (disk_of old.target) c.args.from c.in-Ok.next
    c.requires.compacting.stands c.in-Ok.ensures.part

pub returns-in-Ok-clause-any_moment : goal.returns-in-Ok-clause-any_moment
returns-in-Ok-clause-any_moment g c =
    let old = c.args.self.now in
    weaker g.D.Device.moment g.D.Device.left_since old.journal.device c.write_part.new.journal.device _
    (λ file. opened file ≡ opened (g.D.Device.seen old.journal.device)) c.write_part.ensures.any_moment
    (still-or g.D.Device.seen g.D.Device.may_leave old.journal (kept (disk_of old.target))
    c.requires.compacting.stands)

pub returns-in-Err-clause-any_moment : goal.returns-in-Err-clause-any_moment
returns-in-Err-clause-any_moment g c =
    let old = c.args.self.now in
    weaker g.D.Device.moment g.D.Device.left_since old.journal.device c.write_part.new.journal.device _
    (λ file. opened file ≡ opened (g.D.Device.seen old.journal.device)) c.write_part.ensures.any_moment
    (still-or g.D.Device.seen g.D.Device.may_leave old.journal (kept (disk_of old.target))
    c.requires.compacting.stands)
