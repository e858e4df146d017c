use Rattle.std.proofs.Common.{◌≡◌, ap, arith}
use Rattle.std.specs.List.{flat_map, range_with_len}
use Rattle.sg_wire.specs.Profile.{limits_of}
use Rattle.sg_run.specs.FaultText.{left_text}
use Rattle.sg_run.proofs.FaultTextLemmas.{Prints-number, Prints-same}
use Rattle.sg_run.proofs.text.faults.put_all_left.Goals as goal

pub loop-number-preserved : goal.loop-number-preserved
loop-number-preserved g c =
    Prints-number _ _ _ (left_text c.args.profile c.args.armed.now) c.loop-number.number
    c.loop-number.invariant c.put_left.ensures

pub returns : goal.returns
returns g c =
    let all : c.loop-number.number ≡ (limits_of c.args.profile).initiators =
    omega (
      arith,
      c.loop-number-test.false,
      c.loop-number.auto.number-end,
      c.initiators_in-number-end.ensures.value,
    ) in
    Prints-same
    (ap (λ n. flat_map (left_text c.args.profile c.args.armed.now) (range_with_len 0 n)) all)
    c.loop-number.invariant
