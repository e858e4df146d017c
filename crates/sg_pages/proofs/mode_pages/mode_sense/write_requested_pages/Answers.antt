use Rattle.std.proofs.Common.{◌∙◌, ap, sym}
use Rattle.std.proofs.lemmas.List.{append-nil}
use Rattle.sg_wire.specs.Cut.{answer_of}
use Rattle.sg_wire.specs.CutAnswer.{put}
use Rattle.sg_pages.specs.ModeSense.{requested_pages}
use Rattle.sg_pages.proofs.PageLemmas.{put-two}
use Rattle.sg_pages.proofs.mode_pages.mode_sense.write_requested_pages.Goals as goal

pub returns : goal.returns
unfolding requested_pages
returns c =
    let law = c.parts_are_put_in_turn.ensures in
    put-two law _ _ _ _ _ c.write_if_requested.ensures
    (put-two law _ _ _ _ _ c.write_if_requested-2.ensures
    (put-two law _ _ _ _ _ c.write_if_requested-3.ensures
    (put-two law _ _ _ _ _ c.write_if_requested-4.ensures
    (c.write_if_requested-5.ensures
    ∙ ap (put (answer_of c.write_if_requested-4.new.cut)) (sym (append-nil _))))))
