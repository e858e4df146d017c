-- Single addresses without the addresses of a range.
use Rattle.std.proofs.Common.{◌≡◌, ℕ, ◌-◌, ◌≤◌, List, ◌++◌, arith, sym, ap}
use Rattle.std.proofs.Common.{◌∙◌}
use Rattle.sg_pool.specs.MappedRecords.{outside_records}
use Rattle.sg_table.specs.declared.run.Run.{Run}
use Rattle.sg_block_map.specs.Runs.{expanded}
use Rattle.sg_pool.specs.Rising.{AreApart}
use Rattle.sg_pool.proofs.RemainingLemmas.{outside-before, outside-behind, outside-both}
use Rattle.sg_block_map.proofs.BetweenLemmas.{between-expanded}
use Rattle.sg_block_map.proofs.ExpandedLemmas.{expanded-append}

-- nothing is left in the range
pub nothing-left : (next : List ℕ) (xs kept ys : List Run) (low high bound : ℕ) → low ≤ high
    → AreApart 0 low xs → AreApart high bound ys
    → outside_records (expanded next kept) low (high - low) ≡ expanded next kept
    → expanded next (xs ++ (kept ++ ys))
    ≡ outside_records (expanded next (xs ++ (kept ++ ys))) low (high - low)
nothing-left next xs kept ys low high bound le h k none =
    let parts = expanded-append next xs (kept ++ ys)
    ∙ ap (λ zs. expanded next xs ++ zs) (expanded-append next kept ys) in
    parts ∙ sym (ap (λ zs. outside_records zs low (high - low)) parts
    ∙ outside-both (expanded next xs) (expanded next kept ++ expanded next ys) low (high - low)
    (outside-before (expanded next xs) 0 low low (high - low) (omega arith)
    (between-expanded next xs 0 low h))
    (outside-both (expanded next kept) (expanded next ys) low (high - low) none
    (outside-behind (expanded next ys) high bound low (high - low) (omega arith)
    (between-expanded next ys high bound k))))
