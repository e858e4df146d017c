use Rattle.sg_target.specs.Runs.{armed_after_happening}
use Rattle.std.proofs.Common.{Some, refl, sym, ap, subst, ◌∙◌}
use Rattle.sg_journal.specs.Device.{LeavesOnly}
use Rattle.sg_target.specs.Armed.{Armed}
use Rattle.sg_target.specs.Target.{disk_of}
use Rattle.sg_kept.specs.Kept.{powered}
use Rattle.sg_kept.specs.Opened.{IsBeforeOr}
use Rattle.sg_kept.proofs.MomentsLemmas.{on-ok}
use Rattle.sg_kept.proofs.OpenedLemmas.{kept-on, untouched}
use Rattle.sg_kept.proofs.disk.KeptDisk.happen_and_write.Goals as goal

pub write_waiting-requires-clause-kept : goal.write_waiting-requires-clause-kept
write_waiting-requires-clause-kept g c =
    let told = c.happen_and_record in
    let old = c.args.self.now in
    kept-on g.D.Device.seen g.D.Device.may_leave old.journal old.batch told.new.batch
    (disk_of old.target) (disk_of told.new.target) c.requires.usable.kept told.ensures.waits
    told.ensures.sector told.ensures.limits

pub returns-clause-any_moment : goal.returns-clause-any_moment
returns-clause-any_moment g c =
    let old = c.args.self.now in
    subst (λ (d : Armed). LeavesOnly g.D.Device.moment g.D.Device.left_since old.journal.device
    c.write_waiting.new.self.journal.device (IsBeforeOr (g.D.Device.seen old.journal.device) d))
    c.happen_and_record.ensures.happened c.write_waiting.ensures.any_moment

pub returns-clause-written : goal.returns-clause-written
returns-clause-written g c =
    on-ok c.write_waiting.result
    (λ flushed. flushed refl ∙ ap (λ (d : Armed). Some (powered d)) (sym c.write_waiting.ensures.disk))
    c.write_waiting.ensures.flushed

pub returns-then-self-gt-LONGEST_FILE-clause-any_moment
    : goal.returns-then-self-gt-LONGEST_FILE-clause-any_moment
returns-then-self-gt-LONGEST_FILE-clause-any_moment g c =
    let journal = c.args.self.now.journal in
    let s = c.requires.usable.kept in
    untouched g.D.Device.seen g.D.Device.may_leave g.D.Device.moment g.D.Device.left_since journal
    s.batches s.waiting (armed_after_happening (disk_of c.args.self.now.target) c.args.happening) s.stands
    (g.met.D.Device.only_now journal.device)
