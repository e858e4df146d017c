use Rattle.std.proofs.Common.{◌≡◌, ℕ, Some, refl, sym, ap, ap₂, ◌∙◌}
use Rattle.sg_faults.specs.Faults.{Faults}
use Rattle.sg_target.specs.Armed.{Armed}
use Rattle.sg_target.specs.State.{State}
use Rattle.sg_target.specs.Target.{TargetFields, disk_of}
use Rattle.sg_target.specs.Ports.{Forgets}
use Rattle.sg_kept.specs.Kept.{kept, powered, without_port}
use Rattle.sg_kept.proofs.HistoryLemmas.{history-begins}
use Rattle.sg_kept.proofs.OpenedLemmas.{kept-on}
use Rattle.sg_kept.proofs.disk.KeptDisk.forget.Goals as goal

forgets-is : (i : ℕ) (old new : TargetFields) → Forgets i old new
    → disk_of new ≡ without_port (disk_of old) i
forgets-is i old new forgets =
    ap₂ (λ (s : State) (f : Faults). record { state = s; faults = f }) forgets.state forgets.faults

pub returns-clause-forgotten : goal.returns-clause-forgotten
returns-clause-forgotten g c =
    let i = c.args.initiator in
    forgets-is i c.flush.new.self.target c.forget.new.self c.forget.ensures
    ∙ ap (λ (d : Armed). without_port d i) c.flush.ensures.disk

pub returns-clause-usable : goal.returns-clause-usable
returns-clause-usable g c =
    let usable = c.in_ok-flush.ensures.usable in
    let mid = c.flush.new.self in
    let is = forgets-is c.args.initiator mid.target c.forget.new.self c.forget.ensures in (
      usable.0,
      record {
        kept = kept-on g.D.Device.seen g.D.Device.may_leave mid.journal mid.batch mid.batch
            (disk_of mid.target) (disk_of c.forget.new.self) usable.1.kept
            (λ left waits. waits ∙ ap (λ (d : Armed). Some (kept d)) (sym is)) refl c.forget.ensures.limits;
        room = usable.1.room;
        scratch = usable.1.scratch;
      },
    )

pub returns-clause-written : goal.returns-clause-written
returns-clause-written g c =
    c.in_ok-flush.ensures.flushed
    ∙ ap (λ (d : Armed). Some (powered d)) (sym (returns-clause-forgotten g c))

pub returns-clause-history : goal.returns-clause-history
returns-clause-history g c = history-begins g.D.Device.seen _ (returns-clause-written g c)
