use Rattle.std.proofs.Common.{List, Option, Some, ap, sym, arith, ◌∙◌, ◌-◌, ◌+◌, take}
use Rattle.std.proofs.lemmas.List.{length-set, take_all, take_more_set}
use Rattle.sg_changes.specs.Format.{many_at, optional}
use Rattle.sg_changes.specs.FaultFormat.{armed_fault, faults}
use Rattle.sg_faults.specs.Faults.{max_faults}
use Rattle.sg_faults.specs.declared.fault.ArmedFault.{ArmedFault}
use Rattle.sg_changes.proofs.LoopLemmas.{ends, goes_on, is_done, with_front}
use Rattle.sg_changes.proofs.fault_fields.faults_at.Goals as goal

pub returns : goal.returns
unfolding faults
returns c =
    let i = c.loop-number.number in
    let so_far = c.loop-number.slots in
    let size = c.loop-number.invariant.size in
    is_done (optional armed_fault) (take i so_far) max_faults i c.loop-number.rest.now
    (many_at (optional armed_fault) max_faults c.args.bytes.now) c.loop-number-test.false
    c.loop-number.invariant.read
    ∙ ap (λ (xs : List (Option ArmedFault)). Some (xs, c.loop-number.rest.now))
    (take_all i so_far (omega arith)) ∙ ap (λ (xs : List (Option ArmedFault)). Some
    (xs, c.loop-number.rest.now)) (sym c.restored.ensures)

pub returns-in_default : goal.returns-in_default
unfolding faults
returns-in_default c =
    ends (optional armed_fault) (take c.loop-number.number c.loop-number.slots) max_faults
    c.loop-number.number
    c.loop-number.rest.now (many_at (optional armed_fault) max_faults c.args.bytes.now)
    c.loop-number-test.true
    c.in_default.ensures c.loop-number.invariant.read

pub loop-number-preserved : goal.loop-number-preserved
loop-number-preserved c =
    let i = c.loop-number.number in
    let so_far = c.loop-number.slots in
    let size = c.loop-number.invariant.size in
    record {
      read =
          ap (λ (front : List (Option ArmedFault)). with_front front
          (many_at (optional armed_fault) (max_faults - (i + 1)) c.in-Some.after.now))
          (take_more_set so_far i c.in-Some.slot (omega arith))
          ∙ goes_on (optional armed_fault) (take i so_far) max_faults i c.loop-number.rest.now c.in-Some.slot
          c.in-Some.after.now (many_at (optional armed_fault) max_faults c.args.bytes.now)
          c.loop-number-test.true
          c.in-Some.ensures c.loop-number.invariant.read;
      size = length-set so_far i c.in-Some.slot ∙ size;
    }
