use Rattle.std.proofs.Common.{◌≡◌, ◌<◌, length, None, get_or, rules}
use Rattle.sg_faults.proofs.AskingLemmas.{armed-here}
use Rattle.sg_faults.proofs.faults.Faults.arm.Goals as goal

pub returns-then-is_none : goal.returns-then-is_none
returns-then-is_none c =
    let faults = c.loop-number.self in
    let n = c.loop-number.number in
    let free : get_or faults n None ≡ None = search rules in
    let here : n < length faults = search rules in
    let rest = c.loop-number.invariant.rest in
    let is = armed-here c.args.fault.now faults n here free rest in
    search rules
