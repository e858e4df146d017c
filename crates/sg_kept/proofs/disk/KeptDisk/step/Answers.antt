use Rattle.std.proofs.Common.{◌≡◌, length, Some, sym, ap, subst, ◌∙◌, arith}
use Rattle.std.proofs.lemmas.List.{with_items_is}
use Rattle.sg_journal.specs.Device.{LeavesOnly}
use Rattle.sg_target.specs.Armed.{Armed, armed_step}
use Rattle.sg_target.specs.Executed.{executed_operation}
use Rattle.sg_target.specs.Target.{disk_of}
use Rattle.sg_kept.specs.Kept.{powered}
use Rattle.sg_kept.specs.Opened.{IsBeforeOr}
use Rattle.sg_kept.specs.Owing.{owes_flush}
use Rattle.sg_kept.proofs.OpenedLemmas.{kept-on, untouched}
use Rattle.sg_kept.proofs.disk.KeptDisk.step.Goals.{then-flushes, else-flushes}
use Rattle.sg_kept.proofs.disk.KeptDisk.step.Goals as goal

pub write_waiting-requires-clause-kept : goal.write_waiting-requires-clause-kept
write_waiting-requires-clause-kept g c =
    let told = c.execute_and_record-reply in
    let old = c.args.self.now in
    kept-on g.D.Device.seen g.D.Device.may_leave old.journal old.batch told.new.batch
    (disk_of old.target) (disk_of told.new.target) c.requires.usable.kept told.ensures.waits
    told.ensures.sector told.ensures.executed.limits

pub write_waiting-requires-clause-scratch : goal.write_waiting-requires-clause-scratch
write_waiting-requires-clause-scratch g c =
    let told = c.execute_and_record-reply in
    let old = c.args.self.now in
    let whole : length told.new.scratch ≡ length old.scratch.items =
    told.ensures.scratch ∙ ap length c.deref_mut.ensures.value in
    let same : length told.new.scratch ≡ old.scratch.len = omega (arith, whole, old.scratch.ok) in
    ap length (with_items_is old.scratch told.new.scratch same) ∙ whole ∙ c.requires.usable.scratch

pub returns-in_err-write_waiting-clause-any_moment : goal.returns-in_err-write_waiting-clause-any_moment
returns-in_err-write_waiting-clause-any_moment g c =
    let told = c.execute_and_record-reply in
    let old = c.args.self.now in
    subst (λ (d : Armed). LeavesOnly g.D.Device.moment g.D.Device.left_since old.journal.device
    c.write_waiting.new.self.journal.device (IsBeforeOr (g.D.Device.seen old.journal.device) d))
    told.ensures.executed.after c.write_waiting.ensures.any_moment

pub returns-clause-any_moment : goal.returns-clause-any_moment
returns-clause-any_moment g c =
    let told = c.execute_and_record-reply in
    let old = c.args.self.now in
    subst (λ (d : Armed). LeavesOnly g.D.Device.moment g.D.Device.left_since old.journal.device
    c.write_waiting.new.self.journal.device (IsBeforeOr (g.D.Device.seen old.journal.device) d))
    told.ensures.executed.after c.write_waiting.ensures.any_moment

pub returns-clause-owed : goal.returns-clause-owed
returns-clause-owed g c at_once owes =
    let told = c.execute_and_record-reply in
    let old = c.args.self.now in
    let cdb = c.args.cdb.now in
    let same = c.write_waiting.ensures.disk in
    let owed = ap (λ (d : Armed). owes_flush d cdb (executed_operation (disk_of old.target)
    c.args.initiator cdb c.args.data_out.now)) (sym same) ∙ owes in
    elim c.if-flushes.branch [
      | then-flushes w ↦
          c.in_ok-write_waiting.ensures.flushed (w.write_waiting-is ∙ told.ensures.owes ∙ owed)
          ∙ ap (λ (d : Armed). Some (powered d)) (sym same)
      | else-flushes w ↦
          c.has_to_wait-waits.ensures.written at_once w.if-flushes.false (told.ensures.owes ∙ owed)
    ]

pub returns-clause-left : goal.returns-clause-left
returns-clause-left g c =
    let old = c.args.self.now in
    let new = c.write_waiting.new.self in
    subst (λ (d : Armed). IsBeforeOr (g.D.Device.seen old.journal.device) d
    (g.D.Device.seen new.journal.device)) (sym c.write_waiting.ensures.disk)
    c.in_ok-write_waiting.ensures.left

pub returns-then-self-gt-LONGEST_FILE-clause-any_moment
    : goal.returns-then-self-gt-LONGEST_FILE-clause-any_moment
returns-then-self-gt-LONGEST_FILE-clause-any_moment g c =
    let journal = c.args.self.now.journal in
    let s = c.requires.usable.kept in
    untouched g.D.Device.seen g.D.Device.may_leave g.D.Device.moment g.D.Device.left_since journal
    s.batches s.waiting
    (armed_step (disk_of c.args.self.now.target) c.args.initiator c.args.cdb.now c.args.data_out.now).after
    s.stands (g.met.D.Device.only_now journal.device)
