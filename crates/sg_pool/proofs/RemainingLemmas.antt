-- Single addresses without the addresses of a range.
use Rattle.std.proofs.Common.{◌≡◌, ℕ, ◌+◌, ◌-◌, ◌≤◌, List, [], ◌∷◌, ◌++◌, arith, refl, sym, ap}
use Rattle.std.proofs.Common.{ap₂, ◌∙◌}
use Rattle.std.proofs.lemmas.List.Elements.{filter-append}
use Rattle.std.specs.Prelude.{not}
use Rattle.sg_store.specs.Disk.{lies_in}
use Rattle.sg_pool.specs.MappedRecords.{outside_records}
use Rattle.sg_table.specs.declared.run.Run.{Run}
use Rattle.sg_pool.specs.Rising.{AreBetween}
use Rattle.sg_store.proofs.DiskLemmas.{inside, below, above}
use Rattle.sg_pool.proofs.RisingLemmas.{between-le}

pub outside-append : (xs ys : List Run) (a k : ℕ)
    → outside_records (xs ++ ys) a k ≡ outside_records xs a k ++ outside_records ys a k
outside-append xs ys a k = filter-append (λ (run : Run). not (lies_in a k run.start)) xs ys

pub outside-both : (xs ys : List Run) (a k : ℕ) → outside_records xs a k ≡ xs
    → outside_records ys a k ≡ ys → outside_records (xs ++ ys) a k ≡ xs ++ ys
outside-both xs ys a k one other = outside-append xs ys a k ∙ ap₂ (λ vs ws. vs ++ ws) one other

-- addresses before a range and after it, and addresses of the range
pub outside-before : (xs : List Run) (low high a k : ℕ) → high ≤ a → AreBetween low high xs
    → outside_records xs a k ≡ xs
outside-before [] low high a k le h = refl
outside-before (x ∷ xs) low high a k le h =
    let first = between-le xs (x.start + 1) high h.1 in
    rw (below a k x.start (omega arith))
    (ap (λ zs. x ∷ zs) (outside-before xs (x.start + 1) high a k le h.1))

pub outside-behind : (xs : List Run) (low high a k : ℕ) → a + k ≤ low → AreBetween low high xs
    → outside_records xs a k ≡ xs
outside-behind [] low high a k le h = refl
outside-behind (x ∷ xs) low high a k le h = rw (above a k x.start (omega (arith, h.0)))
    (ap (λ zs. x ∷ zs) (outside-behind xs (x.start + 1) high a k (omega (arith, h.0)) h.1))

pub outside-inside : (xs : List Run) (low high a k : ℕ) → a ≤ low → high ≤ a + k
    → AreBetween low high xs → outside_records xs a k ≡ []
outside-inside [] low high a k le within h = refl
outside-inside (x ∷ xs) low high a k le within h =
    let first = between-le xs (x.start + 1) high h.1 in
    rw (inside a k x.start (omega (arith, h.0)) (omega arith))
    (outside-inside xs (x.start + 1) high a k (omega (arith, h.0)) within h.1)

-- addresses of the range can as well be left out before
pub outside-less : (xs ys zs : List Run) (low high : ℕ) → low ≤ high → AreBetween low high ys
    → outside_records (xs ++ zs) low (high - low)
    ≡ outside_records (xs ++ (ys ++ zs)) low (high - low)
outside-less xs ys zs low high le h =
    outside-append xs zs low (high - low)
    ∙ sym (outside-append xs (ys ++ zs) low (high - low)
    ∙ ap (λ ws. outside_records xs low (high - low) ++ ws) (outside-append ys zs low (high - low)
    ∙ ap (λ ws. ws ++ outside_records zs low (high - low))
    (outside-inside ys low high low (high - low) (omega arith) (omega arith) h)))
