-- START STOP UNIT (SBC-3, 5.25).
use Rattle.std.specs.Prelude.{Bool, not}
use Rattle.sg_target.specs.Effect.{Effect, no_effect}
use Rattle.sg_target.specs.State.{State}

-- With START the unit is started, and otherwise it is stopped. Nothing else changes.
abbrev pub starting_or_stopping : State → (start : Bool) → Effect
starting_or_stopping state start =
    record (no_effect state) { after = record state { stopped = not start } }
