-- The numbers of a list that are kept.
use Rattle.std.specs.Prelude.{◌≡◌, ◌+◌, ℕ, List, [], ◌∷◌, ◌++◌, length, take, Option, Some, None}
use Rattle.std.specs.Prelude.{nat_lt, if◌then◌else◌}
use Rattle.sg_wire.specs.UnmapList.{maximum_unmap_descriptors}
use Rattle.sg_tools.specs.declared.number_list.NumberList.{NumberList}

-- A list keeps as many numbers as UNMAP takes, and counts them all.
pub record Keeps (numbers : List ℕ) (list : NumberList) : Type 0 where
  pub count : list.count ≡ length numbers
  pub first : list.first.items ≡ take maximum_unmap_descriptors numbers

abbrev pub ReadsList : Option (List ℕ) → Option NumberList → Type 0
ReadsList None None = Unit {0}
ReadsList None (Some list) = ⊥
ReadsList (Some numbers) None = ⊥
ReadsList (Some numbers) (Some list) = Keeps numbers list

-- One more number is kept, if there is room.
pub record PushesNumber (old : NumberList) (number : ℕ) (new : NumberList) : Type 0 where
  pub count : new.count ≡ old.count + 1
  pub first : new.first.items ≡ (
      if nat_lt (length old.first.items) maximum_unmap_descriptors then old.first.items ++ number ∷ []
      else old.first.items)
