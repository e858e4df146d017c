use Rattle.std.proofs.Common.{◌≡◌, drop}
use Rattle.std.specs.List.{flat_map}
use Rattle.sg_wire.specs.Cut.{answer_of}
use Rattle.sg_wire.specs.CutAnswer.{put}
use Rattle.sg_wire.specs.SupportedOperations.{command_descriptor}
use Rattle.sg_wire.specs.Table.{layouts_in}
use Rattle.sg_wire.proofs.command.supported.put_descriptors.Given as goal

-- with the descriptors that are left, all are put
abbrev pub invariant-loop-entry : goal.invariant-loop-entry
invariant-loop-entry l =
    put (answer_of l.cut)
    (flat_map (command_descriptor l.timeouts) (layouts_in l.profile (drop l.entry-index l.entries)))
    ≡ put (answer_of l.fn.cut)
    (flat_map (command_descriptor l.timeouts) (layouts_in l.profile l.entries))
