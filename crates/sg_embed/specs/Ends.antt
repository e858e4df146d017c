-- How a call ends that the checks let through, by the disk that it leaves.
use Rattle.std.specs.Prelude.{Bool, Option, if◌then◌else◌}
use Rattle.std.specs.Option.{option_map_or}
use Rattle.sg_embed.specs.Served.{calls_wait, is_dead}
use Rattle.sg_embed.specs.declared.kept.Kept.{Kept}
use Rattle.sg_embed.specs.declared.outcome.Outcome.{Outcome}
use Rattle.sg_embed.specs.declared.outcome.Outcome.TheVariants.{CallsWait, Done, FileFailed, FlushOwed}
use Rattle.sg_embed.specs.declared.served.Served.{Served}

-- A command that was executed. If the disk's file has failed, the reply says so.
abbrev pub executed_outcome : (left : Served) → Outcome
executed_outcome left = if calls_wait left then CallsWait else Done

-- A command that was executed without its flush. If its reply has to wait for one, calls may wait, too.
abbrev pub unflushed_outcome : (waits : Bool) → (left : Served) → Outcome
unflushed_outcome waits left = if waits then FlushOwed else executed_outcome left

-- Any other call. If the disk's file has failed, the call has not done what it is for.
abbrev pub done_outcome : (left : Served) → Outcome
done_outcome left = if is_dead left then FileFailed else executed_outcome left

-- A call that the checks refuse has the outcome of the checks.
abbrev pub ends : (checked : Outcome) → (outcome_of : Served → Outcome) → (left : Option Kept) → Outcome
ends Done outcome_of left = option_map_or (λ disk. outcome_of disk.target) left Done
ends checked outcome_of left = checked
