-- Laws of the thresholds of a thin provisioned disk.
use Rattle.std.specs.Prelude.{◌≡◌, ◌<◌, ◌≤◌, ◌^◌, ℕ, true, false}
use Rattle.sg_wire.specs.declared.profile.Profile.{Profile}
use Rattle.sg_wire.specs.declared.profile.Profile.TheVariants.{Base, Extended}
use Rattle.sg_pages.specs.ProvisioningPages.{threshold_sets}
use Rattle.sg_pages.specs.Thresholds.{crosses, falls_to, rises_to}
use Rattle.sg_pages.specs.declared.mode_pages.mode_page.PageValues.{PageValues}
use Rattle.sg_pages.specs.declared.provisioning_pages.MappingResources.{MappingResources}

-- No threshold is crossed while the number of used blocks stays as it is.
abbrev pub EqualCountsCrossNothing : Type 0
EqualCountsCrossNothing =
    (profile : Profile) (values : PageValues) (pool : MappingResources)
    → crosses profile values pool pool ≡ false

-- Only a command that uses more blocks of the pool crosses a threshold. One that frees blocks crosses none.
abbrev pub OnlyMoreUsedBlocksCross : Type 0
OnlyMoreUsedBlocksCross =
    (profile : Profile) (values : PageValues) (before after : MappingResources)
    → crosses profile values before after ≡ true
    → after.capacity ≡ before.capacity → after.blocks ≡ before.blocks → before.used < after.used

-- On a base disk none is ever crossed.
abbrev pub BaseDisksCrossNothing : Type 0
BaseDisksCrossNothing =
    (values : PageValues) (before after : MappingResources) → crosses Base values before after ≡ false

-- A number that has fallen to a threshold, or risen to it, cannot do so again from there. It has to go back
-- first.
pub record CrossingsDoNotRepeat : Type 0 where
  pub falling : (count before after later : ℕ) → falls_to count before after ≡ true
      → falls_to count after later ≡ false
  pub rising : (count before after later : ℕ) → rises_to count before after ≡ true
      → rises_to count after later ≡ false

-- The number of the threshold sets of a disk fits in four bytes: no disk has more than 2 ^ 40 blocks.
abbrev pub ThresholdSetsFitInFourBytes : Type 0
ThresholdSetsFitInFourBytes =
    (capacity : ℕ) → capacity ≤ 2 ^ 40 → threshold_sets Extended capacity capacity < 2 ^ 32
