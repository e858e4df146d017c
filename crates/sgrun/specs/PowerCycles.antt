-- The power cycles of a disk in a file. At each of them the file is closed and opened again.
use Rattle.std.specs.Prelude.{◌≡◌, ℕ, List, ◌∷◌, ◌++◌, [], Some, All}
use Rattle.sg_kept.specs.Kept.{powered}
use Rattle.sg_kept.specs.Opened.{opened}
use Rattle.sg_target.specs.Armed.{Armed}
use Rattle.sgrun.specs.declared.power_cycle.PowerCycle.{PowerCycle}

-- Each opening has read the bytes that the file was closed with: nobody else has changed the file
-- meanwhile, or has put another one in its place.
abbrev pub AreReadBack : {D : Type 0} → (seen opening : D → List ℕ) → List (PowerCycle D) → Type 0
AreReadBack seen opening cycles =
    All (λ cycle. opening cycle.opened.value ≡ seen cycle.closed.value) cycles

-- A power cycle came after earlier ones. The file was closed when it stood for the disk from before, and
-- the disk after it is the one that opening has found in the bytes that it read.
pub record HasReopened {D : Type 0} (seen opening : D → List ℕ) (before after : Armed)
    (earlier cycles : List (PowerCycle D)) : Type 0 where
  pub cycle : PowerCycle D
  pub stood : opened (seen cycle.closed.value) ≡ Some (powered before)
  pub found : opened (opening cycle.opened.value) ≡ Some after
  pub noted : cycles ≡ earlier ++ cycle ∷ []
