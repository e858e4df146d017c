-- A table of hexadecimal digits.
use Rattle.std.proofs.Common.{◌≡◌, ◌<◌, ℕ, zero, suc, inl, inr, List, slice_index, Bool, true, arith}
use Rattle.std.specs.Prelude.{◌&&◌, ◌==◌}
use Rattle.std.proofs.lemmas.Bool.{and_parts, cases_lt, eqb-true}
use Rattle.sg_tools.specs.HexDigits.{digit_or_none}

-- the test of the first n places of a table, which computes
abbrev pub has_values : List ℕ → ℕ → Bool
has_values table zero = true
has_values table (suc n) = (slice_index table n == digit_or_none n) && has_values table n

pub value-at : (table : List ℕ) (n byte : ℕ) → has_values table n ≡ true → byte < n
    → slice_index table byte ≡ digit_or_none byte
value-at table zero byte h below = absurd (omega arith)
value-at table (suc n) byte h below =
    let parts = and_parts (slice_index table n == digit_or_none n) (has_values table n) h in
    elim (cases_lt byte n) [
      | inl before ↦ value-at table n byte parts.1 before
      | inr last ↦
          let same : byte ≡ n = omega arith in
          rw same (eqb-true (slice_index table n) (digit_or_none n) parts.0)
    ]
