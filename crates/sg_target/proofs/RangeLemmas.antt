-- The cost of ranges together.
use Rattle.std.proofs.Common.{ℕ, ◌+◌, ◌≤◌, List, [], ◌∷◌, arith}
use Rattle.sg_store.specs.Disk.{Contents}
use Rattle.sg_target.specs.Charge.{sum_over, visit_bound}
use Rattle.sg_target.specs.Ranges.{Range}

-- no kind of store visits more than two more than the blocks of each
pub price-within : (price : Contents → ℕ → ℕ → ℕ)
    → ((contents : Contents) (lba count : ℕ) → price contents lba count ≤ count + 2)
    → (over : List Range) → sum_over price over ≤ visit_bound over
price-within price h [] = omega arith
price-within price h (range ∷ rest) =
    let others = price-within price h rest in
    let first = h range.contents range.lba range.count in
    omega arith
