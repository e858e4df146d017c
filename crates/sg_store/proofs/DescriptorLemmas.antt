-- Addresses in a row that have one provisioning status, and their descriptors.
use Rattle.std.proofs.Common.{◌≡◌, ◌≢◌, ℕ, ◌+◌, ◌-◌, ◌<◌, ◌≤◌, zero, suc, List, [], ◌∷◌, ◌++◌}
use Rattle.std.proofs.Common.{arith, refl, sym, ap, ap₂, ◌∙◌, eq-eqb, cond, Bool, true, false}
use Rattle.std.proofs.lemmas.Bool.{false_from_ne_true}
use Rattle.std.proofs.lemmas.Bool.Decides.{nat_tests}
use Rattle.std.proofs.lemmas.List.FromFn.{length-range_with_len}
use Rattle.std.proofs.lemmas.List.Sums.{prefix_len-le-length, sum_by-append, sum_by-cons}
use Rattle.std.specs.List.{prefix_len, range_with_len}
use Rattle.std.specs.Prelude.{min, nat_lt, ◌==◌}
use Rattle.sg_store.specs.Disk.{Contents}
use Rattle.sg_wire.specs.LbaStatus.{code_of}
use Rattle.sg_store.specs.LbaStatus.{count_alike, covered, descriptor_at, descriptors_from}
use Rattle.sg_store.specs.LbaStatus.{max_addresses, status_at}
use Rattle.sg_wire.specs.declared.lba_status.ProvisioningStatus.{ProvisioningStatus}
use Rattle.sg_wire.specs.declared.lba_status.ProvisioningStatus.TheVariants.{Mapped, Deallocated, Anchored}
use Rattle.sg_wire.specs.declared.lba_status.StatusDescriptor.{StatusDescriptor}

-- the numbers of a range that pass a test, before the first number that fails it
prefix-is : (p : ℕ → Bool) (a n k : ℕ) → k ≤ n → ((i : ℕ) → i < k → p (a + i) ≡ true)
    → (k < n → p (a + k) ≡ false) → prefix_len p (range_with_len a n) ≡ k
prefix-is p a zero zero le all stop = refl
prefix-is p a zero (suc k) le all stop = absurd (omega arith)
prefix-is p a (suc n) zero le all stop =
    let here : a + 0 ≡ a = omega arith in
    ap (λ b. cond b (1 + prefix_len p (range_with_len (a + 1) n)) 0) (rw here at (stop (omega arith)))
prefix-is p a (suc n) (suc k) le all stop =
    let here : a + 0 ≡ a = omega arith in
    let rest = prefix-is p (a + 1) n k (omega arith)
    (λ i lt. let on : a + 1 + i ≡ a + suc i = omega arith in rw on (all (suc i) (omega arith)))
    (λ lt. let on : a + 1 + k ≡ a + suc k = omega arith in rw on (stop (omega arith))) in
    ap (λ b. cond b (1 + prefix_len p (range_with_len (a + 1) n)) 0)
    (rw here at (all 0 (omega arith))) ∙ omega (arith, rest)

-- statuses of one code are the same
pub same_status : (s t : ProvisioningStatus) → (code_of s == code_of t) ≡ true → s ≡ t
same_status Mapped Mapped e = refl
same_status Mapped Deallocated e = let wrong = e in cc
same_status Mapped Anchored e = let wrong = e in cc
same_status Deallocated Mapped e = let wrong = e in cc
same_status Deallocated Deallocated e = refl
same_status Deallocated Anchored e = let wrong = e in cc
same_status Anchored Mapped e = let wrong = e in cc
same_status Anchored Deallocated e = let wrong = e in cc
same_status Anchored Anchored e = refl

other_code : (s t : ProvisioningStatus) → s ≢ t → (code_of s == code_of t) ≡ false
other_code s t other = false_from_ne_true (code_of s == code_of t) (λ e. other (same_status s t e))

-- a descriptor, by the status of its addresses
module _ (m : Contents) (capacity a k : ℕ) (s : ProvisioningStatus) (here : status_at m a ≡ s)
    (within : k ≤ min max_addresses (capacity - a))
    (all : (i : ℕ) → i < k → status_at m (a + i) ≡ s)
    (stop : k < min max_addresses (capacity - a) → status_at m (a + k) ≢ s) where
  alike : count_alike m capacity a ≡ k
  unfolding count_alike
  alike = prefix-is _ a (min max_addresses (capacity - a)) k within
      (λ i lt. eq-eqb _ _ (ap code_of (all i lt ∙ sym here)))
      (λ lt. other_code _ _ (λ e. stop lt (e ∙ here)))

  pub described : ◌≡◌ {A = StatusDescriptor} (record { lba = a; count = k; status = s })
      (descriptor_at m capacity a)
  described = ap₂ (λ n (c : ProvisioningStatus). record { lba = a; count = n; status = c })
      (sym alike) (sym here)

-- a descriptor covers no more addresses than its count has room for, and none past the end
pub alike-within : (m : Contents) (capacity a : ℕ)
    → count_alike m capacity a ≤ min max_addresses (capacity - a)
unfolding count_alike
alike-within m capacity a = omega (
  arith,
  prefix_len-le-length (λ x. code_of (status_at m x) == code_of (status_at m a))
      (range_with_len a (min max_addresses (capacity - a))),
  length-range_with_len a (min max_addresses (capacity - a)),
)

-- the addresses of one more descriptor
pub covered-first : (d : StatusDescriptor) (ds : List StatusDescriptor)
    → covered (d ∷ ds) ≡ d.count + covered ds
covered-first d ds = sum_by-cons (λ (x : StatusDescriptor). x.count) d ds

-- the descriptors from an address on
pub descriptors-first : (m : Contents) (capacity a most : ℕ) → a < capacity
    → descriptors_from m capacity a (suc most) ≡
    descriptor_at m capacity a ∷ descriptors_from m capacity (a + count_alike m capacity a) most
unfolding descriptors_from
descriptors-first m capacity a most below = let on : nat_lt a capacity ≡ true =
    grind (arith, nat_tests) in rw on refl

pub descriptors-more : (m : Contents) (capacity a n : ℕ) → a < capacity → 0 < n
    → descriptors_from m capacity a n ≡
    descriptor_at m capacity a ∷ descriptors_from m capacity (a + count_alike m capacity a)
    (n - 1)
descriptors-more m capacity a zero below some = absurd (omega arith)
descriptors-more m capacity a (suc n) below some = let one : suc n - 1 ≡ n = omega arith in
    rw one (descriptors-first m capacity a n below)

pub descriptors-none : (m : Contents) (capacity a : ℕ) → descriptors_from m capacity a 0 ≡ []
unfolding descriptors_from
descriptors-none m capacity a = refl

pub descriptors-end : (m : Contents) (capacity a n : ℕ) → capacity ≤ a → descriptors_from m capacity a n ≡ []
unfolding descriptors_from
descriptors-end m capacity a zero past = refl
descriptors-end m capacity a (suc n) past = let no : nat_lt a capacity ≡ false =
    grind (arith, nat_tests) in rw no refl

pub covered-more : (items : List StatusDescriptor) (d : StatusDescriptor)
    → covered (items ++ d ∷ []) ≡ covered items + d.count
covered-more items d = sum_by-append (λ (x : StatusDescriptor). x.count) items (d ∷ []) ∙ omega arith
