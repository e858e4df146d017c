use Rattle.std.proofs.Common.{List, Some, ap, arith, ◌∙◌, ◌-◌, ◌+◌, take}
use Rattle.std.proofs.lemmas.List.{length-set, take_all, take_more_set}
use Rattle.sg_changes.specs.Format.{many_at}
use Rattle.sg_changes.specs.FaultFormat.{count}
use Rattle.sg_faults.specs.declared.fault.Count.{Count}
use Rattle.sg_wire.specs.Initiator.{initiator_count}
use Rattle.sg_changes.proofs.LoopLemmas.{ends, goes_on, is_done, with_front}
use Rattle.sg_changes.proofs.fault_fields.counts_at.Goals as goal

pub returns : goal.returns
returns c =
    let i = c.loop-number.number in
    let so_far = c.loop-number.counts in
    let size = c.loop-number.invariant.size in
    is_done count (take i so_far) initiator_count i c.loop-number.rest.now
    (many_at count initiator_count c.args.bytes.now) c.loop-number-test.false c.loop-number.invariant.read
    ∙ ap (λ (xs : List (Count)). Some (xs, c.loop-number.rest.now)) (take_all i so_far (omega arith))

pub returns-in_default : goal.returns-in_default
returns-in_default c =
    ends count (take c.loop-number.number c.loop-number.counts) initiator_count c.loop-number.number
    c.loop-number.rest.now (many_at count initiator_count c.args.bytes.now) c.loop-number-test.true
    c.in_default.ensures c.loop-number.invariant.read

pub loop-number-preserved : goal.loop-number-preserved
loop-number-preserved c =
    let i = c.loop-number.number in
    let so_far = c.loop-number.counts in
    let size = c.loop-number.invariant.size in
    record {
      read =
          ap (λ (front : List (Count)). with_front front
          (many_at count (initiator_count - (i + 1)) c.in-Some.after.now))
          (take_more_set so_far i c.in-Some.count (omega arith))
          ∙ goes_on count (take i so_far) initiator_count i c.loop-number.rest.now c.in-Some.count
          c.in-Some.after.now (many_at count initiator_count c.args.bytes.now) c.loop-number-test.true
          c.in-Some.ensures c.loop-number.invariant.read;
      size = length-set so_far i c.in-Some.count ∙ size;
    }
