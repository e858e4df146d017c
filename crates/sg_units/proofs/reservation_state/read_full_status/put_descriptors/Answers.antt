use Rattle.std.proofs.Common.{◌∙◌, ap, sym}
use Rattle.sg_wire.specs.Cut.{answer_of}
use Rattle.sg_wire.specs.CutAnswer.{put}
use Rattle.sg_units.specs.FullStatus.{full_status_descriptor}
use Rattle.sg_units.proofs.PartLemmas.{put-one_more}
use Rattle.sg_units.proofs.reservation_state.read_full_status.put_descriptors.Goals as goal

pub loop-registration-init : goal.loop-registration-init
loop-registration-init c = sym (c.parts_are_put_in_turn.ensures.nothing c.args.cut.now)

pub loop-registration-preserved : goal.loop-registration-preserved
loop-registration-preserved c =
    let l = c.loop-registration in
    let item = c.registration-item in
    c.put.ensures
    ∙ (ap (put (answer_of l.cut)) c.full_status_descriptor.ensures
    ∙ put-one_more c.parts_are_put_in_turn.ensures
    (full_status_descriptor c.args.reservation.now) (answer_of c.args.cut.now) (answer_of l.cut)
    c.args.registrations.now l.registration-index item.result
    c.loop-registration-test.true item.is l.invariant)
