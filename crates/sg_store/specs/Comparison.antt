-- Comparing blocks of the disk with bytes, byte by byte (SBC-3, 5.29, VERIFY).
use Rattle.std.specs.Prelude.{ℕ, List, Option, Some, None, Result, Ok, Err, not, ◌==◌, replicate}
use Rattle.std.specs.List.{concat, position, zip}
use Rattle.sg_store.specs.declared.store.Miscompare.{Miscompare}

-- The offset of the first byte that differs from the byte at the same offset of the other bytes.
unfoldable pub first_difference : (bytes others : List ℕ) → Option ℕ
first_difference bytes others =
    position (λ (pair : ℕ × ℕ). not (pair.0 == pair.1)) (zip bytes others)

-- The result of a comparison with such an offset, or with none.
abbrev pub compared_by : Option ℕ → Result Unit Miscompare
compared_by None = Ok tt
compared_by (Some offset) = Err (record { offset = offset })

-- The result of comparing bytes with others.
abbrev pub compared : (bytes others : List ℕ) → Result Unit Miscompare
compared bytes others = compared_by (first_difference bytes others)

-- A block `count` times, joined.
unfoldable pub repeated : (count : ℕ) → (block : List ℕ) → List ℕ
repeated count block = concat (replicate count block)
