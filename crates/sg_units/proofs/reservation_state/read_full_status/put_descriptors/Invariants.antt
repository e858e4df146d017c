use Rattle.std.proofs.Common.{◌≡◌, take}
use Rattle.std.specs.List.{flat_map}
use Rattle.sg_wire.specs.Cut.{answer_of}
use Rattle.sg_wire.specs.CutAnswer.{put}
use Rattle.sg_units.specs.FullStatus.{full_status_descriptor}
use Rattle.sg_units.proofs.reservation_state.read_full_status.put_descriptors.Given as goal

-- the descriptors so far are put
abbrev pub invariant-loop-registration : goal.invariant-loop-registration
invariant-loop-registration l =
    let so_far = take l.registration-index l.registrations in
    answer_of l.cut ≡ put (answer_of l.initial.cut)
    (flat_map (full_status_descriptor l.reservation) so_far)
