use Rattle.std.proofs.Common.{◌≡◌, Option, Some, sym, ap, ap₂, subst, ◌∙◌}
use Rattle.std.specs.Prelude.{IfSome}
use Rattle.sg_changes.specs.Change.{applied_all}
use Rattle.sg_faults.specs.Faults.{Faults, is_armed}
use Rattle.sg_journal.specs.BatchValue.{BatchValue}
use Rattle.sg_target.specs.Armed.{Armed, armed_step}
use Rattle.sg_target.specs.Executed.{executed_operation}
use Rattle.sg_target.specs.State.{State}
use Rattle.sg_target.specs.Target.{disk_of}
use Rattle.sg_target.specs.declared.operation.Operation.{Operation}
use Rattle.sg_kept.specs.Changes.{command_changes}
use Rattle.sg_kept.specs.Kept.{kept}
use Rattle.sg_kept.specs.Owing.{owes_flush}
use Rattle.sg_kept.specs.Recording.{IsReadable}
use Rattle.sg_kept.proofs.ExecutedLemmas.{executed-readable}
use Rattle.sg_kept.proofs.RecordingLemmas.{replay-adds}
use Rattle.sg_kept.proofs.recording.execute_and_record.Goals as goal

pub add_command-requires-clause-readable : goal.add_command-requires-clause-readable
add_command-requires-clause-readable g c =
    let disk = disk_of c.args.target.now in
    let told = c.execute_told-reply in
    let executed = executed_operation disk c.args.initiator c.args.cdb.now c.args.data_out.now in
    subst (λ (o : Option Operation). IfSome o (IsReadable told.new.self.state.disk.capacity))
    (sym told.ensures.operation)
    (subst (λ (d : Armed). IfSome executed (IsReadable d.state.disk.capacity))
    (sym told.ensures.executed.after)
    (executed-readable disk c.args.initiator c.args.cdb.now c.args.data_out.now))

pub returns-clause-waits : goal.returns-clause-waits
returns-clause-waits g c left waits =
    let disk = disk_of c.args.target.now in
    let told = c.execute_told-reply in
    let between = disk_of told.new.self in
    let after = (armed_step disk c.args.initiator c.args.cdb.now c.args.data_out.now).after in
    let executed = executed_operation disk c.args.initiator c.args.cdb.now c.args.data_out.now in
    let armed : is_armed disk.faults ≡ c.is_armed-was_armed.result =
    sym (c.is_armed-was_armed.ensures ∙ ap is_armed c.fault_table.ensures) in
    let law = c.commands_make_their_changes.ensures disk c.args.initiator c.args.cdb.now c.args.data_out.now
    c.requires.limits in
    let makes = subst (λ (d : Armed). applied_all (kept disk) (command_changes disk d told.result.operation)
    ≡ Some (kept d)) (sym told.ensures.executed.after)
    (subst (λ (o : Option Operation). applied_all (kept disk) (command_changes disk after o)
    ≡ Some (kept after)) (sym told.ensures.operation) law) in
    replay-adds c.records_are_replayed.ensures c.args.batch.now c.add_command.new.batch
    (command_changes disk between told.result.operation) left (kept disk) (kept between)
    (c.add_command.ensures.records disk armed) waits makes
    ∙ sym (ap₂ (λ (s : State) (f : Faults). Some (kept (record { state = s; faults = f })))
    c.add_command.ensures.state c.add_command.ensures.faults)

pub returns-clause-sector : goal.returns-clause-sector
returns-clause-sector g c =
    let disk = disk_of c.args.target.now in
    let armed : is_armed disk.faults ≡ c.is_armed-was_armed.result =
    sym (c.is_armed-was_armed.ensures ∙ ap is_armed c.fault_table.ensures) in
    ap (λ (b : BatchValue). b.sector) (c.add_command.ensures.records disk armed).added

pub returns-clause-owes : goal.returns-clause-owes
returns-clause-owes g c =
    let after = disk_of c.add_command.new.target in
    c.owes_flush-owes.ensures after c.caches_writes.ensures
    ∙ ap (λ (o : Option Operation). owes_flush after c.args.cdb.now o) c.execute_told-reply.ensures.operation
