-- The sums of Fletcher's checksum, as they are added up.
use Rattle.std.specs.Prelude.{◌≡◌, ℕ, ◌%◌, ◌^◌, List, sum}
use Rattle.sg_journal.specs.Layout.{sum_of_sums}
use Rattle.sg_journal.specs.declared.checksum.Sums.{Sums}

-- These are the sums of some words, modulo 2 ^ 32.
pub record AreSums (words : List ℕ) (sums : Sums) : Type 0 where
  pub sum_is : sums.sum ≡ sum words % 2 ^ 32
  pub sum_of_sums_is : sums.sum_of_sums ≡ sum_of_sums words % 2 ^ 32
