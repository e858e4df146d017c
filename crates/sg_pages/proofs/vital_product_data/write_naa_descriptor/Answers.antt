use Rattle.std.proofs.Common.{◌≡◌, ◌∙◌, ap, sym}
use Rattle.sg_wire.specs.Cut.{answer_of}
use Rattle.sg_wire.specs.CutAnswer.{put}
use Rattle.sg_wire.specs.declared.profile.Profile.TheVariants.{Base}
use Rattle.sg_pages.specs.VitalProductData.{locally_assigned}
use Rattle.sg_pages.proofs.PageLemmas.{descriptor-put, length-locally_assigned}
use Rattle.sg_pages.proofs.vital_product_data.write_naa_descriptor.Goals as goal

pub returns-in-Base : goal.returns-in-Base
returns-in-Base c =
    let i = c.args.identity.now in
    let number = c.locally_assigned.ensures ∙ ap locally_assigned c.local.ensures.value in
    let profile : i.profile ≡ Base = sym c.profile.ensures ∙ c.in-Base.is in
    rw profile (
    descriptor-put c.parts_are_put_in_turn.ensures _ _ _ _ _ _ _ (sym (length-locally_assigned i.local))
    c.put.ensures (c.put-in-Base.ensures ∙ ap (put (answer_of c.put.new.self)) number))
