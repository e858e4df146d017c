-- What the options of sg_start ask for (its manual page in sg3_utils).
use Rattle.std.specs.Prelude.{ℕ, Bool, false, ◌==◌, ◌&&◌, ◌||◌, if◌then◌else◌}
use Rattle.sg_wire.specs.declared.command.Command.{Command}
use Rattle.sg_wire.specs.Commands as command

-- --start, --load, --stop and --eject: each excludes the others.
abbrev pub has_two_actions : (start load stop eject : Bool) → Bool
has_two_actions start load stop eject =
    ((start || load) && (stop || eject)) || ((start && load) || (stop && eject))

-- A power condition other than 0 is sent with its modifier, and without LOEJ and START. If it is 0, the
-- modifier is not sent.
abbrev pub start_or_stop : (modifier condition : ℕ) (loej start : Bool) → Command
start_or_stop modifier condition loej start =
    if condition == 0 then command.start_stop_unit 0 0 loej start
    else command.start_stop_unit modifier condition false false
