-- The visits of a call over a range, in a store that has a record for each extent.
use Rattle.std.specs.Prelude.{◌≡◌, ℕ, ◌+◌, ◌-◌, ◌<◌, ◌≤◌, zero, suc, max, min}
use Rattle.std.proofs.Common.{arith, ap, sym, ◌∙◌, inl, inr}
use Rattle.std.proofs.lemmas.Bool.{cases_lt}
use Rattle.sg_store.specs.Disk.{Contents, used_among, used_at}
use Rattle.sg_store.proofs.DiskLemmas.{used_among-none, used_among-more, used_among-le}

-- A call visits a record if an address of the range has one.
abbrev pub extent_least : Contents → (lba count : ℕ) → ℕ
extent_least contents lba count = min 1 (used_among contents lba count)

-- It visits at most a record for each such address, the record before the range, and the record
-- after it.
abbrev pub extent_price : Contents → (lba count : ℕ) → ℕ
extent_price contents lba count = used_among contents lba count + 2

-- The laws of a store.
pub extent_least-positive : (contents : Contents) (lba count : ℕ) →
    0 < used_among contents lba count → 0 < extent_least contents lba count
extent_least-positive contents lba count some = omega arith

pub extent_price-within : (contents : Contents) (lba count : ℕ)
    → extent_price contents lba count ≤ count + 2
extent_price-within contents lba count = omega (arith, used_among-le contents lba count)

-- Two ranges that follow one another have as many as the whole.
pub used-append : (contents : Contents) (lba count more : ℕ)
    → used_among contents lba (count + more)
    ≡ used_among contents lba count + used_among contents (lba + count) more
used-append contents lba count zero =
    let e : count + 0 ≡ count = omega arith in
    rw e (omega (arith, used_among-none contents (lba + count)))
used-append contents lba count (suc more) =
    let e : count + suc more ≡ count + more + 1 = omega arith in
    let f : suc more ≡ more + 1 = omega arith in
    let g : lba + (count + more) ≡ lba + count + more = omega arith in
    rw (e, f) (omega (
      arith,
      used_among-more contents lba (count + more),
      used_among-more contents (lba + count) more,
      used-append contents lba count more,
      ap (used_at contents) g,
    ))

pub extent_price-joined : (contents : Contents) (lba count offset more : ℕ) → offset ≤ count
    → extent_price contents lba (max count (offset + more))
    ≤ extent_price contents lba count + extent_price contents (lba + offset) more
extent_price-joined contents lba count offset more le = elim (cases_lt count (offset + more)) [
  | inl longer ↦
      let n : max count (offset + more) ≡ offset + more = omega arith in
      let rest : offset + (count - offset) ≡ count = omega arith in
      let front = used-append contents lba offset more in
      let whole = ap (used_among contents lba) (sym rest)
      ∙ used-append contents lba offset (count - offset) in
      rw n (omega arith)
  | inr shorter ↦ let n : max count (offset + more) ≡ count = omega arith in rw n (omega arith)
]
