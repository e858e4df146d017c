use Rattle.std.proofs.Common.{◌∙◌, ap, rules}
use Rattle.arrayvec.proofs.ArrayVecLemmas.{filter-from_retain}
use Rattle.sg_units.specs.Registrations.{without_initiator}
use Rattle.sg_units.proofs.registrations.Registrations.remove.Goals as goal

pub returns : goal.returns
returns c =
    filter-from_retain _ _ _ (λ x b f' y called. search rules) _ _ c.retain.ensures.filtered
    ∙ ap (λ k. without_initiator k c.args.initiator) c.self.view_is
