-- A search that halves the addresses that are left.
use Rattle.std.proofs.Common.{◌≡◌, ℕ, ◌+◌, ◌-◌, ◌*◌, ◌/◌, ◌^◌, ◌<◌, ◌≤◌, List, length}
use Rattle.std.proofs.Common.{◌∙◌, ap, arith, inl, inr}
use Rattle.std.proofs.lemmas.Bool.{cases_lt}
use Rattle.sg_table.specs.Search.{AreRising, ProbedStarts, address_at}
use Rattle.sg_table.proofs.HalvingLemmas.{halved-more, halved-less, cost-more}

-- The first address that is not before `address` has an index from `low` to `high`. Each of
-- `probes` steps of a search halved the addresses between them.
pub record IsWindow (starts : List ℕ) (address low high probes : ℕ) : Type 0 where
  pub ordered : low ≤ high
  pub within : high ≤ length starts
  pub before : (i : ℕ) → i < low → address_at starts i < address
  pub after : (i : ℕ) → high ≤ i → i < length starts → address ≤ address_at starts i
  pub halved : 2 ^ probes * (high - low) ≤ length starts
  pub cost : 2 ^ probes ≤ 2 * length starts + 1
  pub least : length starts + 2 ≤ 2 ^ probes * (high - low + 2)

-- a step whose address is before the address that is looked for
window-behind : (starts : List ℕ) (address low high probes : ℕ) → AreRising starts
    → IsWindow starts address low high probes → low < high
    → address_at starts (low + (high - low) / 2) < address
    → IsWindow starts address (low + (high - low) / 2 + 1) high (probes + 1)
window-behind starts address low high probes rising is lt less =
    let n = high - low in
    let middle = low + n / 2 in
    let within = is.within in
    record {
      ordered = omega arith;
      within = within;
      before = λ i below. elim (cases_lt i middle) [
        | inl lower ↦ let rise = rising i middle lower (omega arith) in omega arith
        | inr here ↦ let same : i ≡ middle = omega arith in rw same less
      ];
      after = is.after;
      halved = halved-more probes n _ (length starts) is.halved (omega arith) (omega arith);
      cost = cost-more probes n (length starts) is.halved (omega arith);
      least = halved-less probes n _ (length starts) is.least (omega arith);
    }

-- and a step whose address is not
window-before : (starts : List ℕ) (address low high probes : ℕ) → AreRising starts
    → IsWindow starts address low high probes → low < high
    → address ≤ address_at starts (low + (high - low) / 2)
    → IsWindow starts address low (low + (high - low) / 2) (probes + 1)
window-before starts address low high probes rising is lt past =
    let n = high - low in
    let middle = low + n / 2 in
    let within = is.within in
    record {
      ordered = omega arith;
      within = omega arith;
      before = is.before;
      after = λ i le below. elim (cases_lt middle i) [
        | inl above ↦ let rise = rising middle i above below in omega arith
        | inr here ↦ let same : i ≡ middle = omega arith in rw same past
      ];
      halved = halved-more probes n _ (length starts) is.halved (omega arith) (omega arith);
      cost = cost-more probes n (length starts) is.halved (omega arith);
      least = halved-less probes n _ (length starts) is.least (omega arith);
    }

-- The addresses that a search left, of the addresses that it began with.
pub record IsSearched (old now : ProbedStarts) (address low high : ℕ) : Type 0 where
  pub starts : now.starts ≡ old.starts
  pub window : IsWindow old.starts address low high now.probes

-- a step that read `start` at the middle
module _ (old now next : ProbedStarts) (address low high start : ℕ) (rising : AreRising old.starts)
    (is : IsSearched old now address low high) (lt : low < high)
    (probed : next ≡ record now { probes = now.probes + 1 })
    (value : start ≡ address_at now.starts (low + (high - low) / 2)) where
  same : next.starts ≡ old.starts
  same = ap (λ (p : ProbedStarts). p.starts) probed ∙ is.starts

  more : next.probes ≡ now.probes + 1
  more = ap (λ (p : ProbedStarts). p.probes) probed

  at : start ≡ address_at old.starts (low + (high - low) / 2)
  at = value ∙ ap (λ xs. address_at xs (low + (high - low) / 2)) is.starts

  pub searched-behind : start < address → IsSearched old next address (low + (high - low) / 2 + 1) high
  searched-behind less = record {
    starts = same;
    window = rw more (window-behind old.starts address low high now.probes rising is.window lt
        (omega (arith, at, less)));
  }

  pub searched-before : address ≤ start → IsSearched old next address low (low + (high - low) / 2)
  searched-before past = record {
    starts = same;
    window = rw more (window-before old.starts address low high now.probes rising is.window lt
        (omega (arith, at, past)));
  }
