-- The number of runs that a range meets.
use Rattle.std.proofs.Common.{◌≡◌, ℕ, ◌+◌, ◌-◌, ◌<◌, ◌≤◌, zero, suc, List, [], ◌∷◌, length}
use Rattle.std.proofs.Common.{arith, refl, ◌⊎◌, inl}
use Rattle.std.proofs.Common.{inr, cond}
use Rattle.std.proofs.lemmas.Bool.Decides.{nat_tests}
use Rattle.std.specs.Prelude.{min, max, map}
use Rattle.std.specs.Prelude.{nat_lt}
use Rattle.sg_table.specs.Records.{start_of}
use Rattle.sg_pool.specs.Slots.{Slots}
use Rattle.sg_table.specs.declared.run.Run.{Run}
use Rattle.sg_store.specs.Disk.{max_capacity}
use Rattle.sg_block_map.specs.Gathering.{end_at}
use Rattle.sg_block_map.specs.MaximalRuns.{meets, meet}
use Rattle.sg_block_map.specs.Runs.{AreRuns, chained_contents, address_run}
use Rattle.sg_block_map.specs.Status.{IsRunTable, AreMet, AreFrom, records_met}
use Rattle.sg_store.proofs.DiskLemmas.{count-more}
use Rattle.sg_block_map.proofs.MaximalLemmas.{ends_before, begins_past, none-meet, runs-addresses}

-- the number of runs that a range meets
meets_one : (lba count start n : ℕ) → lba < start + n → start < lba + count → 0 < count → 0 < n
    → cond {A = ℕ} (nat_lt (max start lba) (min (start + n) (lba + count))) 1 0 ≡ 1
meets_one lba count start n h k some any = grind (arith, nat_tests)

met-more : (rs : List Run) (from to low count : ℕ)
    → ((i : ℕ) → i < length rs → start_of rs i < end_at rs i) → from ≤ to → to ≤ length rs
    → ((i : ℕ) → i < from → end_at rs i ≤ low) → AreMet rs from to low (low + count) → 0 < count
    → AreFrom rs to (low + count) → records_met rs low count ≡ to - from
met-more [] from to low count filled le within before met some rest = omega arith
met-more (x ∷ rs) (suc from) zero low count filled le within before met some rest =
    absurd (omega arith)
met-more (x ∷ rs) (suc from) (suc to) low count filled le within before met some rest =
    let here = ends_before low count x.start x.count (before 0 (omega arith)) in
    let more = met-more rs from to low count (λ i lt. filled (suc i) (omega arith)) (omega arith)
    (omega arith) (λ i lt. before (suc i) (omega arith))
    (λ i ge lt. met (suc i) (omega arith) (omega arith)) some
    (λ i ge lt. rest (suc i) (omega arith) (omega arith)) in
    omega (arith, count-more (meets low count) (address_run x) (map address_run rs))
met-more (x ∷ rs) zero (suc to) low count filled le within before met some rest =
    let m = met 0 (omega arith) (omega arith) in
    let here = meets_one low count x.start x.count m.0 m.1 some
    (omega (arith, filled 0 (omega arith))) in
    let more = met-more rs zero to low count (λ i lt. filled (suc i) (omega arith)) (omega arith)
    (omega arith) (λ i lt. absurd (omega arith))
    (λ i ge lt. met (suc i) (omega arith) (omega arith)) some
    (λ i ge lt. rest (suc i) (omega arith) (omega arith)) in
    omega (arith, count-more (meets low count) (address_run x) (map address_run rs))
met-more (x ∷ rs) zero zero low count filled le within before met some rest =
    let here = begins_past low count x.start x.count (rest 0 (omega arith) (omega arith)) in
    let more = met-more rs zero zero low count (λ i lt. filled (suc i) (omega arith)) (omega arith)
    (omega arith) (λ i lt. absurd (omega arith))
    (λ i ge lt. absurd (omega arith)) some (λ i ge lt. rest (suc i) (omega arith) (omega arith)) in
    omega (arith, count-more (meets low count) (address_run x) (map address_run rs))

pub met-none : (rs : List Run) (low count : ℕ) → count ≡ 0 → records_met rs low count ≡ 0
met-none rs low count e = none-meet (map address_run rs) low count e

pub met-count : (rs : List Run) (capacity from to low count : ℕ) → IsRunTable capacity rs
    → from ≤ to → to ≤ length rs
    → ((i : ℕ) → i < from → end_at rs i ≤ low) → AreMet rs from to low (low + count)
    → ((count ≡ 0) × (from ≡ to)) ⊎ ((0 < count) × AreFrom rs to (low + count))
    → records_met rs low count ≡ to - from
met-count rs capacity from to low count t le within before met (inl none) =
    omega (arith, met-none rs low count none.0, none.1)
met-count rs capacity from to low count t le within before met (inr some) =
    met-more rs from to low count t.filled le within before met some.0 some.1

-- the number of maximal runs that a range meets, by the records
pub meet-records : (rs : List Run) (slots : Slots) (room lba count : ℕ) → AreRuns rs slots room
    → meet (chained_contents rs slots) lba count ≡ records_met rs lba count
unfolding meet
meet-records rs slots room lba count h =
    rw (runs-addresses slots.next rs slots.blocks 0 (max_capacity + 1) h.maximal) refl
