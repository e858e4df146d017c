use Rattle.std.proofs.Common.{◌≡◌, ◌≤◌, ◌∙◌, ℕ, List, Result, ap, arith}
use Rattle.sg_wire.specs.CdbDecoding.{command_in}
use Rattle.sg_wire.specs.declared.command.CdbFault.{CdbFault}
use Rattle.sg_wire.specs.declared.command.Command.{Command}
use Rattle.sg_wire.specs.declared.profile.Profile.{Profile}
use Rattle.sg_target.specs.Armed.{attempt_by}
use Rattle.sg_target.specs.Charge.{armed_ranges, cost_bounds, visit_bound}
use Rattle.sg_target.specs.Config.{ConfigFields}
use Rattle.sg_target.specs.Demands.{asked_bytes, data_out_length}
use Rattle.sg_target.specs.Executed.{executed_by}
use Rattle.sg_target.specs.State.{State, config_of, profile_of}
use Rattle.sg_target.specs.Target.{disk_of}
use Rattle.sg_target.specs.declared.operation.Operation.{Operation}
use Rattle.sg_target.specs.declared.refusal.Refusal.{Refusal}
use Rattle.sg_target.proofs.ConcludingLemmas.{charged, executed}
use Rattle.sg_target.proofs.RangeLemmas.{price-within}
use Rattle.sg_target.proofs.target.Target.execute_told.Goals as goal

-- the disk reads the CDB in its own profile
asked-is : (state : State) (cdb : List ℕ) {asked : ℕ} {command : Result Command CdbFault}
    {profile : Profile} → ((config : ConfigFields) → asked ≡ asked_bytes config command)
    → command ≡ command_in profile cdb → profile ≡ profile_of state
    → asked ≡ data_out_length (config_of state) cdb
asked-is state cdb counted read is =
    counted (config_of state)
    ∙ ap (asked_bytes (config_of state)) (read ∙ ap (λ (p : Profile). command_in p cdb) is)

pub returns-clause-executed : goal.returns-clause-executed
returns-clause-executed g c =
    executed c.limits_are_kept.ensures (cost_bounds g.S.Store.price g.S.Store.least)
    c.args.call.initiator c.args.call.cdb.now c.args.call.data_out.now c.asked_bytes-asked.result
    c.check_command-checked.result c.args.self.now c.conclude_armed-executed.new.self
    c.conclude_armed-executed.result.reply c.args.buf.now c.conclude_armed-executed.new.buf
    c.check_command-checked.ensures.checked _
    (asked-is c.args.self.now.state c.args.call.cdb.now c.asked_bytes-asked.ensures
    c.read_in-command.ensures c.profile.ensures)
    c.check_command-checked.ensures.limits c.conclude_armed-executed.ensures.taken

pub returns-clause-charged : goal.returns-clause-charged
returns-clause-charged g c =
    let over = armed_ranges (disk_of c.args.self.now) c.args.call.initiator c.args.call.cdb.now
    c.check_command-checked.result in
    let within = price-within g.S.Store.price g.met.S.Store.price_within over in
    let few : c.conclude_armed-executed.result.reply.counts.visits ≤ visit_bound over =
    omega (arith, within, c.conclude_armed-executed.ensures.taken.charge.visits) in
    charged c.limits_are_kept.ensures (cost_bounds g.S.Store.price g.S.Store.least)
    c.args.call.initiator c.args.call.cdb.now c.args.call.data_out.now c.asked_bytes-asked.result
    c.check_command-checked.result c.args.self.now c.conclude_armed-executed.new.self
    c.conclude_armed-executed.result.reply c.args.buf.now c.conclude_armed-executed.new.buf
    c.check_command-checked.ensures.checked
    c.conclude_armed-executed.ensures.taken.charge few

pub returns-clause-operation : goal.returns-clause-operation
returns-clause-operation g c =
    c.conclude_armed-executed.ensures.operation
    ∙ ap
    (λ (checked : Result Operation Refusal). executed_by c.args.self.now.state c.args.call.initiator
    (attempt_by (disk_of c.args.self.now) c.args.call.initiator c.args.call.cdb.now checked).result)
    c.check_command-checked.ensures.checked
