-- The parts that runs near a range keep: one before it, and one after it.
use Rattle.std.proofs.Common.{◌≡◌, ℕ, ◌+◌, ◌-◌, ◌<◌, ◌≤◌, zero, suc, List, [], ◌∷◌, ◌++◌, length}
use Rattle.std.proofs.Common.{arith, refl, ap, get_or, length-append, Option, Some, None, inl, inr}
use Rattle.std.proofs.lemmas.Bool.{cases_lt}
use Rattle.std.specs.Prelude.{option_to_list, IfSome}
use Rattle.sg_pool.specs.Slots.{Slots}
use Rattle.sg_table.specs.Records.{start_of}
use Rattle.sg_table.specs.declared.run.Run.{Run}
use Rattle.sg_table.proofs.RecordLemmas.{start_of-read}
use Rattle.sg_block_map.specs.Cutting.{IsCut}
use Rattle.sg_block_map.specs.Gathering.{end_at, AreNear}
use Rattle.sg_block_map.specs.Runs.{AreChained}
use Rattle.sg_pool.specs.Rising.{end_of, AreApart}
use Rattle.sg_block_map.specs.Splitting.{IsFront}
use Rattle.sg_block_map.proofs.AddressLemmas.{apart-order}
use Rattle.sg_block_map.proofs.ExpandedLemmas.{chained-right}
use Rattle.sg_block_map.proofs.GatheringLemmas.{end_at-read}

near-at : (rs : List Run) (low high i : ℕ) → AreNear low high rs → i < length rs
    → (low ≤ end_at rs i) × (start_of rs i ≤ high)
near-at [] low high i near lt = absurd (omega arith)
near-at (x ∷ rs) low high zero near lt = (near.0, near.1)
near-at (x ∷ rs) low high (suc i) near lt = near-at rs low high i near.2 (omega arith)

-- only the first run begins before the range
not-before : (rs : List Run) (a b low high i : ℕ) → AreApart a b rs → AreNear low high rs
    → 0 < i → i < length rs → low ≤ start_of rs i
not-before rs a b low high i apart near some lt =
    omega (
      arith,
      apart-order rs a b (i - 1) i apart (omega arith) lt,
      (near-at rs low high (i - 1) near (omega arith)).0,
    )

-- and only the last one ends after it
not-after : (rs : List Run) (a b low high i : ℕ) → AreApart a b rs → AreNear low high rs
    → i + 1 < length rs → end_at rs i ≤ high
not-after rs a b low high i apart near lt =
    omega (
      arith,
      apart-order rs a b i (i + 1) apart (omega arith) lt,
      (near-at rs low high (i + 1) near lt).1,
    )

none-behind : (next : List ℕ) (run : Run) (high : ℕ) (back : Option Run)
    → AreChained next (option_to_list back)
    → IfSome back (λ part. (high ≤ part.start) × (run.start ≤ part.start) × (end_of part ≡ end_of run)
    × (part.kind ≡ run.kind))
    → end_of run ≤ high → length (option_to_list back) ≡ 0
none-behind next run high None chained behind le = refl
none-behind next run high (Some part) chained behind le =
    let some = chained.0.not_empty in
    absurd (omega (arith, behind.0, behind.2, some))

none-before : (run : Run) (low : ℕ) (front : Option Run) → IfSome front (IsFront run low)
    → low ≤ run.start → length (option_to_list front) ≡ 0
none-before run low None before le = refl
none-before run low (Some part) before le = absurd (omega (arith, before.0, before.2))

one-part : (part : Option Run) → length (option_to_list part) ≤ 1
one-part None = omega arith
one-part (Some part) = omega arith

-- what is kept after a run: three parts at most, and one at most if another run follows
pub parts-kept : (old new : Slots) (kept kept' : List Run) (run : Run) (low high : ℕ)
    → IsCut old new kept kept' run low high → length kept ≤ 1 → length kept' ≤ 3
parts-kept old new kept kept' run low high cut few =
    omega (
      arith,
      ap length cut.keeps,
      length-append kept (option_to_list cut.front ++ option_to_list cut.back),
      length-append (option_to_list cut.front) (option_to_list cut.back),
      one-part cut.front,
      one-part cut.back,
    )

pub few-kept : (rs : List Run) (a b i : ℕ) (old new : Slots) (kept kept' : List Run) (run : Run)
    (low high : ℕ) → AreApart a b rs → AreNear low high rs → run ≡ get_or rs i run
    → IsCut old new kept kept' run low high → (i ≡ 0 → length kept ≡ 0) → length kept ≤ 1
    → i + 1 < length rs → length kept' ≤ 1
few-kept rs a b i old new kept kept' run low high apart near is cut first few lt =
    let here : i < length rs = omega arith in
    let end = end_at-read rs i run here is in
    let start = start_of-read rs i run here is in
    let back = none-behind old.next run high cut.back
    (chained-right old.next (option_to_list cut.gone) (option_to_list cut.back)
    (chained-right old.next (option_to_list cut.front) (option_to_list cut.gone ++ option_to_list cut.back)
    cut.chained)) cut.behind (omega (arith, end, not-after rs a b low high i apart near lt)) in
    let all = length-append kept (option_to_list cut.front ++ option_to_list cut.back) in
    let parts = length-append (option_to_list cut.front) (option_to_list cut.back) in
    let keeps = ap length cut.keeps in
    elim (cases_lt 0 i) [
      | inl some ↦
          let front = none-before run low cut.front cut.before
          (omega (arith, start, not-before rs a b low high i apart near some here)) in
          omega arith
      | inr none ↦ omega (arith, first (omega arith), one-part cut.front)
    ]
