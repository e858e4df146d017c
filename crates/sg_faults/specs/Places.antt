-- The places among the checks of a command where a fault does something.
use Rattle.std.specs.Prelude.{Option, Some, None}
use Rattle.sg_faults.specs.declared.outcome.Afterwards.{Afterwards}
use Rattle.sg_faults.specs.declared.outcome.AtMedium.{AtMedium}
use Rattle.sg_faults.specs.declared.outcome.OnArrival.{OnArrival}
use Rattle.sg_faults.specs.declared.outcome.Outcome.{Outcome}
use Rattle.sg_faults.specs.declared.outcome.Outcome.TheVariants as outcome

-- What an outcome does at a place, if it does something there.
abbrev pub At : Type 0 → Type 0
At A = Outcome → Option A

-- Before every other check.
abbrev pub on_arrival : At OnArrival
on_arrival (outcome.OnArrival o) = Some o
on_arrival _ = None

-- After every check but the one for space, if the command reads or writes a block.
abbrev pub at_medium : At AtMedium
at_medium (outcome.AtMedium o) = Some o
at_medium _ = None

-- After the command was executed.
abbrev pub afterwards : At Afterwards
afterwards (outcome.Afterwards o) = Some o
afterwards _ = None
