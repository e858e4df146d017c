-- The text of a disk that is shown: texts that go on, and runs one after another.
use Rattle.std.proofs.Common.{◌≡◌, ◌<◌, ◌≤◌, ◌+◌, ◌-◌, ℕ, zero, suc, List, [], ◌∷◌, ◌++◌, length}
use Rattle.std.proofs.Common.{Option, Result, Ok, Err, IsErr, Bool, true, false, refl, sym, ap}
use Rattle.std.proofs.Common.{subst, ◌∙◌, arith, append_assoc, append-nil, get_or, inl, inr, take}
use Rattle.std.proofs.lemmas.Bool.{cases_lt}
use Rattle.std.specs.List.{flat_map}
use Rattle.std.specs.Io.KnownBytes.{Appends}
use Rattle.std.proofs.KnownBytes.{Appends-trans}
use Rattle.sg_store.specs.Disk.{Contents, Disk}
use Rattle.sg_store.specs.LbaStatus.{count_alike, descriptor_at, descriptors_from}
use Rattle.sg_store.proofs.DescriptorLemmas.{descriptors-end, descriptors-first}
use Rattle.sg_store.proofs.DescriptorLemmas.{descriptors-more}
use Rattle.sg_wire.specs.Printing.{Printing, Prints}
use Rattle.sg_wire.specs.Sending.{Sends, StopsWithin}
use Rattle.sg_wire.proofs.PrintingLemmas.{Prints-on, Prints-nil, Prints-flat_map}
use Rattle.sg_wire.proofs.SendingLemmas.{StopsWithin-after, StopsWithin-before}
use Rattle.sg_wire.specs.declared.lba_status.StatusDescriptor.{StatusDescriptor}
use Rattle.sgrun.specs.ShownDisk.{run_line, run_lines_from, runs_from}

pub ruleset prints = (Prints-on, Prints-nil, Prints-flat_map)

-- ---- One text after another

-- the text of one more element was printed
pub Prints-item : {X : Type 0} (a b c : Printing) (f : X → List ℕ) (xs : List X) (i : ℕ) (x : X)
    → x ≡ get_or xs i x → i < length xs → Prints a b (flat_map f (take i xs)) → Prints b c (f x)
    → Prints a c (flat_map f (take (i + 1) xs))
Prints-item a b c f xs i x is within so_far one =
    Prints-flat_map a b c f xs i x within so_far (subst (λ y. Prints b c (f y)) is one)

-- the first text was sent, and then the second, or the writer failed within it
pub sends-on : {A E : Type 0} (a b c : Option (List ℕ)) (failed : Bool) (result : Result A E)
    (x y : List ℕ) → Appends a b x → Sends b c failed result y → Sends a c failed result (x ++ y)
sends-on a b c failed (Ok k) x y first next = (Appends-trans a b c x y first next.0, next.1)
sends-on a b c failed (Err e) x y first next = (StopsWithin-after a b c x y first next.0, next.1)

-- the writer failed within the first text
pub sends-stopped : {A E : Type 0} (a b : Option (List ℕ)) (failed : Bool) (result : Result A E)
    (x y : List ℕ) → StopsWithin a b x × (failed ≡ true) → IsErr result
    → Sends a b failed result (x ++ y)
sends-stopped a b failed (Ok k) x y stopped err = let never : false ≡ true = err in cc
sends-stopped a b failed (Err e) x y stopped err = (StopsWithin-before a b x y stopped.0, stopped.1)

-- ---- Runs

-- each address has a run
abbrev pub HasRuns : Contents → (capacity : ℕ) → Type 0
HasRuns contents capacity = (lba : ℕ) → lba < capacity → 0 < count_alike contents capacity lba

abbrev pub run_at : Disk → (lba : ℕ) → StatusDescriptor
run_at disk lba = descriptor_at disk.contents disk.capacity lba

-- as many descriptors as there are addresses are all that there are
enough : (contents : Contents) (capacity lba n m : ℕ) → HasRuns contents capacity
    → capacity - lba ≤ n → capacity - lba ≤ m
    → descriptors_from contents capacity lba n ≡ descriptors_from contents capacity lba m
enough contents capacity lba zero m some first second =
    let past : capacity ≤ lba = omega (arith, first) in
    descriptors-end contents capacity lba zero past
    ∙ sym (descriptors-end contents capacity lba m past)
enough contents capacity lba (suc n) zero some first second =
    let past : capacity ≤ lba = omega (arith, second) in
    descriptors-end contents capacity lba (suc n) past
    ∙ sym (descriptors-end contents capacity lba zero past)
enough contents capacity lba (suc n) (suc m) some first second = elim (cases_lt lba capacity) [
  | inr past ↦
      descriptors-end contents capacity lba (suc n) past
      ∙ sym (descriptors-end contents capacity lba (suc m) past)
  | inl below ↦
      let d : StatusDescriptor = descriptor_at contents capacity lba in
      let more = some lba below in
      let same = enough contents capacity (lba + d.count) n m some (omega (arith, first, more))
      (omega (arith, second, more)) in
      descriptors-first contents capacity lba n below
      ∙ ap (λ ds. d ∷ ds) same
      ∙ sym (descriptors-first contents capacity lba m below)
]

runs-more : (disk : Disk) (lba : ℕ) → HasRuns disk.contents disk.capacity → lba < disk.capacity
    → runs_from disk lba ≡ run_at disk lba ∷ runs_from disk (lba + (run_at disk lba).count)
unfolding runs_from
runs-more disk lba some below =
    let d = run_at disk lba in
    let next = lba + d.count in
    let more = some lba below in
    let same = enough disk.contents disk.capacity next (disk.capacity - lba - 1) (disk.capacity - next)
    some (omega (arith, more)) (omega arith) in
    descriptors-more disk.contents disk.capacity lba (disk.capacity - lba) below (omega arith)
    ∙ ap (λ ds. d ∷ ds) same

runs-end : (disk : Disk) (lba : ℕ) → disk.capacity ≤ lba → runs_from disk lba ≡ []
unfolding runs_from
runs-end disk lba past =
    descriptors-end disk.contents disk.capacity lba (disk.capacity - lba) past

-- the runs before an address were printed, and those from there on are left
pub record HasPrinted (before now : Printing) (disk : Disk) (lba : ℕ) : Type 0 where
  pub printed : List ℕ
  pub prints : Prints before now printed
  pub rest : printed ++ run_lines_from disk lba ≡ run_lines_from disk 0

pub none-printed : (out : Printing) (disk : Disk) → HasPrinted out out disk 0
none-printed out disk = record { printed = []; prints = Prints-nil out; rest = refl }

pub one-printed : (before now after : Printing) (disk : Disk) (lba : ℕ)
    → HasRuns disk.contents disk.capacity → lba < disk.capacity → HasPrinted before now disk lba
    → Prints now after (run_line (run_at disk lba))
    → HasPrinted before after disk (lba + (run_at disk lba).count)
one-printed before now after disk lba some below so_far one =
    let line = run_line (run_at disk lba) in
    let left = run_lines_from disk (lba + (run_at disk lba).count) in
    record {
      printed = so_far.printed ++ line;
      prints = Prints-on so_far.prints one;
      rest = append_assoc so_far.printed line left
          ∙ ap (λ ds. so_far.printed ++ flat_map run_line ds) (sym (runs-more disk lba some below))
          ∙ so_far.rest;
    }

pub all-printed : (before now : Printing) (disk : Disk) (lba : ℕ) → disk.capacity ≤ lba
    → HasPrinted before now disk lba → Prints before now (run_lines_from disk 0)
all-printed before now disk lba past so_far =
    let none = ap (λ ds. so_far.printed ++ flat_map run_line ds) (runs-end disk lba past) in
    subst (Prints before now)
    (sym (append-nil so_far.printed) ∙ sym none ∙ so_far.rest) so_far.prints
