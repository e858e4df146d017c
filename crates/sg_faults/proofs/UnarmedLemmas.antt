-- No fault is armed.
use Rattle.std.proofs.Common.{◌≡◌, [], ◌∷◌, Some, None, false, refl, ap}
use Rattle.sg_faults.specs.Faults.{Faults, healed, is_armed}
use Rattle.sg_faults.specs.Laws.{DoNothing}
use Rattle.sg_faults.specs.Meeting.{Seen}
use Rattle.sg_faults.specs.Places.{At}

pub do-nothing : {A : Type 0} (at : At A) → DoNothing at
do-nothing at command [] e = (refl, refl)
do-nothing at command (None ∷ faults) e = let rest = do-nothing at command faults e in
    (rest.0, ap (λ xs. None ∷ xs) rest.1)
do-nothing at command (Some a ∷ faults) e = cc

pub nothing-healed : (command : Seen) (faults : Faults) → is_armed faults ≡ false
    → healed command faults ≡ faults
unfolding healed
nothing-healed command [] e = refl
nothing-healed command (None ∷ faults) e = ap (λ xs. None ∷ xs) (nothing-healed command faults e)
nothing-healed command (Some a ∷ faults) e = cc
