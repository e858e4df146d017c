use Rattle.std.proofs.Common.{◌∙◌, ap, rules}
use Rattle.arrayvec.proofs.ArrayVecLemmas.{filter-from_retain}
use Rattle.sg_units.specs.Registrations.{without_key_of_others}
use Rattle.sg_units.proofs.registrations.Registrations.remove_key_of_others.Goals as goal

pub returns : goal.returns
returns c =
    filter-from_retain _ _ _ (λ x b f' y called. search rules) _ _ c.retain.ensures.filtered
    ∙ ap (λ k. without_key_of_others k c.args.initiator c.args.key) c.self.view_is
