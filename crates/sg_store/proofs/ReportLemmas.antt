-- The addresses that the answer of GET LBA STATUS covers, and their statuses.
use Rattle.std.proofs.Common.{◌≡◌, ◌≢◌, ℕ, ◌+◌, ◌-◌, ◌<◌, ◌≤◌, zero, suc, List, ◌∷◌, length}
use Rattle.std.proofs.Common.{get_or, arith, refl, sym, ap, subst, ◌∙◌, eq-eqb, inl, inr, Bool}
use Rattle.std.proofs.Common.{true, false, Some}
use Rattle.std.proofs.lemmas.Bool.{cases_lt}
use Rattle.std.proofs.lemmas.Bool.Decides.{nat_tests}
use Rattle.std.proofs.lemmas.List.FromFn.{get_or-range_with_len, length-range_with_len}
use Rattle.std.proofs.lemmas.List.Sums.{prefix_len_passes, prefix_len_stops}
use Rattle.std.proofs.lemmas.List.Elements.{All-nil, All-cons}
use Rattle.std.specs.List.{prefix_len, range_with_len}
use Rattle.std.specs.Prelude.{All, min, ◌==◌}
use Rattle.sg_store.specs.Disk.{Contents, Disk, lies_in}
use Rattle.sg_store.specs.Laws.{status_reported, ReportsEachStatus, CoversTheRest}
use Rattle.sg_store.specs.Laws.{EndsAtAnotherStatus, CoversTheMost}
use Rattle.sg_wire.specs.LbaStatus.{code_of}
use Rattle.sg_store.specs.LbaStatus.{status_at, count_alike, covered, descriptor_at}
use Rattle.sg_store.specs.LbaStatus.{descriptors_from, max_addresses}
use Rattle.sg_wire.specs.declared.lba_status.StatusDescriptor.{StatusDescriptor}
use Rattle.sg_store.proofs.DescriptorLemmas.{alike-within, covered-first, descriptors-end}
use Rattle.sg_store.proofs.DescriptorLemmas.{descriptors-first, descriptors-none, same_status}

-- the addresses that a descriptor covers
pub alike-status : (m : Contents) (capacity a i : ℕ) → i < count_alike m capacity a
    → status_at m (a + i) ≡ status_at m a
unfolding count_alike
alike-status m capacity a i lt =
    let n = min max_addresses (capacity - a) in
    let within = alike-within m capacity a in
    let passes = prefix_len_passes (λ x. code_of (status_at m x) == code_of (status_at m a))
    (range_with_len a n) i 0 lt in
    let at : get_or (range_with_len a n) i 0 ≡ a + i = get_or-range_with_len a n i 0 (omega arith) in
    same_status (status_at m (a + i)) (status_at m a) (rw at at passes)

reported-first : (d : StatusDescriptor) (ds : List StatusDescriptor) (a : ℕ)
    → lies_in d.lba d.count a ≡ true → status_reported (d ∷ ds) a ≡ Some d.status
reported-first d ds a e = rw e refl

reported-later : (d : StatusDescriptor) (ds : List StatusDescriptor) (a : ℕ)
    → lies_in d.lba d.count a ≡ false → status_reported (d ∷ ds) a ≡ status_reported ds a
reported-later d ds a e = rw e refl

reports : (m : Contents) (capacity most lba a : ℕ) → lba ≤ a
    → a < lba + covered (descriptors_from m capacity lba most)
    → status_reported (descriptors_from m capacity lba most) a ≡ Some (status_at m a)
reports m capacity zero lba a low high = absurd (omega (arith, ap covered (descriptors-none m capacity lba)))
reports m capacity (suc most) lba a low high = elim (cases_lt lba capacity) [
  | inr past ↦ absurd (omega (arith, ap covered (descriptors-end m capacity lba (suc most) past)))
  | inl below ↦
      let d : StatusDescriptor = descriptor_at m capacity lba in
      let rest = descriptors_from m capacity (lba + d.count) most in
      let first : descriptors_from m capacity lba (suc most) ≡ d ∷ rest =
      descriptors-first m capacity lba most below in
      let all : covered (descriptors_from m capacity lba (suc most)) ≡ d.count + covered rest =
      ap covered first ∙ covered-first d rest in
      ap (λ ds. status_reported ds a) first ∙ (elim (cases_lt a (lba + d.count)) [
        | inl inside ↦
            let in_it : lies_in lba d.count a ≡ true = grind (arith, nat_tests) in
            let on : lba + (a - lba) ≡ a = omega arith in
            reported-first d rest a in_it ∙ ap Some
            (sym (rw on at (alike-status m capacity lba (a - lba) (omega arith))))
        | inr past ↦
            let before : lies_in lba d.count a ≡ false = grind (arith, nat_tests) in
            reported-later d rest a before
            ∙ reports m capacity most (lba + d.count) a past (omega (arith, all, high))
      ])
]

covers : (m : Contents) (capacity most lba : ℕ) → lba ≤ capacity
    → length (descriptors_from m capacity lba most) < most
    → lba + covered (descriptors_from m capacity lba most) ≡ capacity
covers m capacity zero lba low room = absurd (omega arith)
covers m capacity (suc most) lba low room = elim (cases_lt lba capacity) [
  | inr past ↦ omega (arith, ap covered (descriptors-end m capacity lba (suc most) past))
  | inl below ↦
      let d : StatusDescriptor = descriptor_at m capacity lba in
      let rest = descriptors_from m capacity (lba + d.count) most in
      let first : descriptors_from m capacity lba (suc most) ≡ d ∷ rest =
      descriptors-first m capacity lba most below in
      let all : covered (descriptors_from m capacity lba (suc most)) ≡ d.count + covered rest =
      ap covered first ∙ covered-first d rest in
      let within = alike-within m capacity lba in
      omega (
        arith,
        all,
        covers m capacity most (lba + d.count) (omega arith)
            (omega (arith, ap length first)),
      )
]

-- the end of the addresses of one status
alike-stops : (m : Contents) (capacity a : ℕ) → count_alike m capacity a < max_addresses
    → a + count_alike m capacity a < capacity
    → status_at m (a + count_alike m capacity a) ≢ status_at m a
unfolding count_alike
alike-stops m capacity a small before same =
    let n = min max_addresses (capacity - a) in
    let test : ℕ → Bool = λ x. code_of (status_at m x) == code_of (status_at m a) in
    let k = prefix_len test (range_with_len a n) in
    let stops = prefix_len_stops test (range_with_len a n) 0 (omega (arith, length-range_with_len a n)) in
    let at : get_or (range_with_len a n) k 0 ≡ a + k = get_or-range_with_len a n k 0 (omega arith) in
    let fails : test (a + k) ≡ false = rw at at stops in
    let passes : test (a + k) ≡ true = eq-eqb _ _ (ap code_of same) in
    let wrong : true ≡ false = sym passes ∙ fails in cc

ends : (disk : Disk) (most lba : ℕ)
    → All (EndsAtAnotherStatus disk) (descriptors_from disk.contents disk.capacity lba most)
ends disk zero lba = subst (All (EndsAtAnotherStatus disk))
    (sym (descriptors-none disk.contents disk.capacity lba)) (All-nil (EndsAtAnotherStatus disk))
ends disk (suc most) lba = elim (cases_lt lba disk.capacity) [
  | inr past ↦ subst (All (EndsAtAnotherStatus disk))
      (sym (descriptors-end disk.contents disk.capacity lba (suc most) past))
      (All-nil (EndsAtAnotherStatus disk))
  | inl below ↦
      let d : StatusDescriptor = descriptor_at disk.contents disk.capacity lba in
      subst (All (EndsAtAnotherStatus disk))
      (sym (descriptors-first disk.contents disk.capacity lba most below))
      (All-cons (EndsAtAnotherStatus disk) d _ (alike-stops disk.contents disk.capacity lba)
      (ends disk most (lba + d.count)))
]

pub covers-most : CoversTheMost
covers-most disk lba = ends disk 512 lba

pub reports-each : ReportsEachStatus
reports-each disk lba a = reports disk.contents disk.capacity 512 lba a

pub covers-rest : CoversTheRest
covers-rest disk lba = covers disk.contents disk.capacity 512 lba
