-- Checks in order.
use Rattle.std.proofs.Common.{◌≡◌, [], ◌∷◌, Option, Some, None, refl}
use Rattle.sg_target.specs.Refusal.{first_some}

-- a single check
pub first_some-one : {A : Type 0} (check : Option A) → first_some (check ∷ []) ≡ check
first_some-one None = refl
first_some-one (Some x) = refl

pub ruleset alone = (first_some-one)
