use Rattle.std.proofs.Common.{◌<◌, ap, ◌∙◌, sym, subst, length}
use Rattle.std.specs.Prelude.{ℕ, List, Option, None, slice_index_or}
use Rattle.sg_wire.specs.TransportId.{named_by}
use Rattle.sg_wire.proofs.TransportIdLemmas.{begins, named-at}
use Rattle.sg_wire.proofs.transport_ids.TransportIds.initiator.Goals as goal

pub id_at-requires : goal.id_at-requires
id_at-requires c =
    begins c.self.inside.bytes.now c.args.index
    (subst (λ (ids : List (Option ℕ)). c.args.index < length ids) (sym c.self.view_is) c.requires)

pub returns : goal.returns
returns c =
    c.named_by.ensures
    ∙ ap named_by c.id_at.ensures
    ∙ sym (named-at c.self.inside.bytes.now c.args.index
    (subst (λ (ids : List (Option ℕ)). c.args.index < length ids) (sym c.self.view_is) c.requires))
    ∙ ap (λ (ids : List (Option ℕ)). slice_index_or ids c.args.index None) c.self.view_is
