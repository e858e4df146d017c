-- The visits of a call over a range, in a store that has a record for each mapped or anchored
-- address.
use Rattle.std.specs.Prelude.{◌≡◌, ℕ, ◌+◌, ◌-◌, ◌<◌, ◌≤◌, zero, suc, max}
use Rattle.std.specs.List.{range_with_len}
use Rattle.std.specs.FinMap.{contains_key}
use Rattle.std.proofs.Common.{arith, ap, sym, ◌∙◌, inl, inr}
use Rattle.std.proofs.lemmas.Bool.{cases_lt}
use Rattle.std.proofs.lemmas.List.Sums.{count_by-le-length}
use Rattle.std.proofs.lemmas.List.FromFn.{length-range_with_len}
use Rattle.sg_store.specs.Disk.{Contents, used_among, used_at}
use Rattle.sg_store.proofs.DiskLemmas.{used_among-none, used_among-more}

-- A call visits at least the record of each such address of the range,
abbrev pub plain_least : Contents → (lba count : ℕ) → ℕ
plain_least contents lba count = used_among contents lba count

-- and at most one more: the record after the range, which shows where the range ends.
abbrev pub plain_price : Contents → (lba count : ℕ) → ℕ
plain_price contents lba count = used_among contents lba count + 1

-- The laws of a store.
pub plain_least-positive : (contents : Contents) (lba count : ℕ) →
    0 < used_among contents lba count → 0 < plain_least contents lba count
plain_least-positive contents lba count some = some

pub plain_price-within : (contents : Contents) (lba count : ℕ) → plain_price contents lba count ≤ count + 2
unfolding used_among
plain_price-within contents lba count =
    let at_most_all = count_by-le-length (contains_key contents) (range_with_len lba count) in
    omega (arith, at_most_all, length-range_with_len lba count)

-- Two ranges that follow one another have as many as the whole.
used-append : (contents : Contents) (lba count more : ℕ)
    → used_among contents lba (count + more)
    ≡ used_among contents lba count + used_among contents (lba + count) more
used-append contents lba count zero =
    let e : count + 0 ≡ count = omega arith in
    rw e (omega (arith, used_among-none contents (lba + count)))
used-append contents lba count (suc more) =
    let e : count + suc more ≡ count + more + 1 = omega arith in
    let f : suc more ≡ more + 1 = omega arith in
    let g : lba + (count + more) ≡ lba + count + more = omega arith in
    rw (e, f) (omega (
      arith,
      used_among-more contents lba (count + more),
      used_among-more contents (lba + count) more,
      used-append contents lba count more,
      ap (used_at contents) g,
    ))

pub plain_price-joined : (contents : Contents) (lba count offset more : ℕ) → offset ≤ count
    → plain_price contents lba (max count (offset + more))
    ≤ plain_price contents lba count + plain_price contents (lba + offset) more
plain_price-joined contents lba count offset more le = elim (cases_lt count (offset + more)) [
  | inl longer ↦
      let n : max count (offset + more) ≡ offset + more = omega arith in
      let rest : offset + (count - offset) ≡ count = omega arith in
      let front = used-append contents lba offset more in
      let whole = ap (used_among contents lba) (sym rest)
      ∙ used-append contents lba offset (count - offset) in
      rw n (omega arith)
  | inr shorter ↦ let n : max count (offset + more) ≡ count = omega arith in rw n (omega arith)
]
