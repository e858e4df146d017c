use Rattle.std.proofs.Common.{◌≡◌, drop, take, map}
use Rattle.sg_target.specs.BlockCommands.{past_capacity}
use Rattle.sg_target.specs.Refusal.{first_some}
use Rattle.sg_target.specs.Extents.{AreOnDisk}
use Rattle.sg_target.proofs.extent.first_past_capacity.Given as goal

-- those so far are on the disk, and the others decide
abbrev pub invariant-loop-extent : goal.invariant-loop-extent
invariant-loop-extent l =
    record {
      rest : first_some (map (past_capacity l.capacity) (drop l.extent-index l.extents))
          ≡ first_some (map (past_capacity l.capacity) l.extents);
      on_disk : AreOnDisk l.capacity (take l.extent-index l.extents);
    }
