-- Binary search of addresses that rise.
use Rattle.std.specs.Prelude.{ℕ, ◌+◌, ◌*◌, ◌^◌, ◌<◌, ◌≤◌, List, length, slice_index_or}
use Rattle.sg_table.specs.Leaves.{max_leaf}

-- The number of addresses that a search by halving compares, of `count` addresses: at most as many
-- as `count` has binary digits.
pub record CostsHalving (count probes : ℕ) : Type 0 where
  pub most_probes : 2 ^ probes ≤ 2 * count + 1
  pub fewest_probes : count + 2 ≤ 2 ^ (probes + 1)

-- The number of addresses that a search of leaves compares, of `count` records: at most one more
-- than `count` has binary digits. With one leaf it is at most as many as `count` has binary digits.
pub record CostsSearch (count probes : ℕ) : Type 0 where
  pub most_probes : 2 ^ probes ≤ 4 * count + 1
  pub fewest_probes : count + 2 ≤ 2 ^ (probes + 2)
  pub one_leaf : count ≤ max_leaf → CostsHalving count probes

-- ---- Cited only by private contracts

-- The addresses that a search compares, and how many it compared so far.
pub record ProbedStarts : Type 0 where
  pub starts : List ℕ
  pub probes : ℕ

-- The address at an index.
abbrev pub address_at : List ℕ → ℕ → ℕ
address_at starts index = slice_index_or starts index 0

-- Each address is past the address before.
abbrev pub AreRising : List ℕ → Type 0
AreRising starts = (i j : ℕ) → i < j → j < length starts → address_at starts i < address_at starts j

-- The index of the first start that is not before an address, or the end of the list.
pub record IsFirstFrom (starts : List ℕ) (index address : ℕ) : Type 0 where
  pub within : index ≤ length starts
  pub before : (i : ℕ) → i < index → address_at starts i < address
  pub after : (i : ℕ) → index ≤ i → i < length starts → address ≤ address_at starts i
