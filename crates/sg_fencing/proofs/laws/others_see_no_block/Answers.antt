use Rattle.std.proofs.lemmas.Bool.{or_right}
use Rattle.sg_units.specs.declared.types.ReservationType.TheVariants.{WriteExclusive}
use Rattle.sg_fencing.specs.Fencing.{holds_type}
use Rattle.sg_fencing.proofs.HolderLemmas.{alone, is-exclusive, refuses-others}
use Rattle.sg_fencing.proofs.UnseenLemmas.{unseen}
use Rattle.sg_fencing.proofs.laws.others_see_no_block.Goals as goal

pub returns : goal.returns
returns c state contents holder other cdb data_out w differ exclusive none =
    let h = alone state holder w (or_right (holds_type state holder WriteExclusive) _ exclusive) in
    let refused =
    refuses-others c.others_are_refused.ensures state.reservations holder other differ h in
    unseen c.commands_have_their_class.ensures state contents other
    (refused.reads (is-exclusive state holder h exclusive)) refused.writes cdb data_out none
