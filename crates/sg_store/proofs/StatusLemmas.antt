-- The answer of GET LBA STATUS, as a store writes it. A header comes first, and each descriptor
-- when it is found. In the end the header is written once more.
use Rattle.std.proofs.Common.{◌≡◌, ℕ, ◌+◌, ◌-◌, ◌<◌, ◌≤◌, ◌⊎◌, inl, inr, zero, suc, List, [], ◌∷◌}
use Rattle.std.proofs.Common.{◌++◌, length, length-drop, get_or, take, drop, arith, refl, sym, ap, ◌∙◌}
use Rattle.std.proofs.lemmas.List.{flat_map_more, take_more, take_all}
use Rattle.std.specs.List.{flat_map}
use Rattle.sg_wire.specs.Cut.{answer_of}
use Rattle.sg_wire.specs.CutAnswer.{CutAnswer, put, replace}
use Rattle.sg_wire.specs.declared.cut.Cut.{Cut}
use Rattle.sg_wire.specs.Laws.{PartsArePutInTurn, PartsAreReplaced}
use Rattle.sg_store.specs.Disk.{Contents}
use Rattle.sg_wire.specs.LbaStatus.{descriptor_bytes, status_header, status_data}
use Rattle.sg_store.specs.LbaStatus.{covered, descriptor_at, descriptors_from}
use Rattle.sg_wire.specs.declared.lba_status.StatusDescriptor.{StatusDescriptor}
use Rattle.sg_store.proofs.DescriptorLemmas.{descriptors-more, descriptors-end, descriptors-none}
use Rattle.sg_store.proofs.DescriptorLemmas.{covered-more}

-- ---- Descriptors one by one

-- The first `count` descriptors from an address on are put, and the next one begins at `next`.
pub record AreWritten (m : Contents) (capacity lba : ℕ) (old now : CutAnswer) (count next : ℕ) :
    Type 0 where
  pub within : count ≤ length (descriptors_from m capacity lba 512)
  pub bytes : now
      ≡ put old (flat_map descriptor_bytes (take count (descriptors_from m capacity lba 512)))
  pub rest : drop count (descriptors_from m capacity lba 512)
      ≡ descriptors_from m capacity next (512 - count)
  pub reached : next ≡ lba + covered (take count (descriptors_from m capacity lba 512))

-- none is put at first
pub none-written : PartsArePutInTurn → (m : Contents) (capacity lba : ℕ) (cut : Cut)
    → AreWritten m capacity lba (answer_of cut) (answer_of cut) 0 lba
none-written law m capacity lba cut = record {
  within = omega arith;
  bytes = sym (law.nothing cut);
  rest = refl;
  reached = omega arith;
}

-- the bytes of one more descriptor
descriptor-put : PartsArePutInTurn → (old before after : CutAnswer) (bytes : List ℕ)
    (ds : List StatusDescriptor) (i : ℕ) (d : StatusDescriptor)
    → before ≡ put old (flat_map descriptor_bytes (take i ds)) → after ≡ put before bytes
    → bytes ≡ descriptor_bytes (get_or ds i d) → i < length ds
    → after ≡ put old (flat_map descriptor_bytes (take (i + 1) ds))
descriptor-put law old before after bytes ds i d so_far now is lt =
    let all = flat_map descriptor_bytes (take i ds) in
    now ∙ ap (λ b. put b bytes) so_far ∙ law.in_turn old all bytes ∙ ap (λ b. put old (all ++ b)) is
    ∙ ap (put old) (flat_map_more descriptor_bytes [] (take i ds) (get_or ds i d)
    ∙ ap (λ xs. flat_map descriptor_bytes xs) (sym (take_more ds i d lt)))

-- the list at an index
next-of : (all rest : List StatusDescriptor) (n : ℕ) (d e : StatusDescriptor)
    → drop n all ≡ d ∷ rest → (n < length all) × (get_or all n e ≡ d) × (drop (n + 1) all ≡ rest)
next-of [] rest zero d e is = let wrong = is in cc
next-of [] rest (suc n) d e is = let wrong = is in cc
next-of (x ∷ all) rest zero d e is = (omega arith, ap (λ xs. get_or xs 0 e) is, ap (drop 1) is)
next-of (x ∷ all) rest (suc n) d e is = let more = next-of all rest n d e is in
    let on : suc n + 1 ≡ suc (n + 1) = omega arith in (omega (arith, more.0), more.1, rw on more.2)

-- the first of the descriptors that are left
first-of : (m : Contents) (capacity a n : ℕ) (d : StatusDescriptor) (all : List StatusDescriptor)
    → a < capacity → n < 512 → d ≡ descriptor_at m capacity a
    → drop n all ≡ descriptors_from m capacity a (512 - n)
    → drop n all ≡ d ∷ descriptors_from m capacity (a + d.count) (512 - (n + 1))
first-of m capacity a n d all below room is more =
    let one : 512 - n - 1 ≡ 512 - (n + 1) = omega arith in
    more ∙ descriptors-more m capacity a (512 - n) below (omega arith)
    ∙ ap (λ (x : StatusDescriptor). x ∷ descriptors_from m capacity (a + x.count) (512 - n - 1))
    (sym is)
    ∙ ap (λ k. d ∷ descriptors_from m capacity (a + d.count) k) one

-- and then one more descriptor
pub one-written : PartsArePutInTurn → (m : Contents) (capacity lba : ℕ)
    (old now after : CutAnswer) (count next : ℕ) (d : StatusDescriptor) (bytes : List ℕ)
    → AreWritten m capacity lba old now count next
    → next < capacity → count < 512 → d ≡ descriptor_at m capacity next
    → bytes ≡ descriptor_bytes d → after ≡ put now bytes
    → AreWritten m capacity lba old after (count + 1) (next + d.count)
one-written law m capacity lba old now after count next d bytes so_far below room is of_it puts =
    let all = descriptors_from m capacity lba 512 in
    let first = next-of all (descriptors_from m capacity (next + d.count) (512 - (count + 1))) count
    d d (first-of m capacity next count d all below room is so_far.rest) in
    let more = ap covered (take_more all count d first.0
    ∙ ap (λ x. take count all ++ x ∷ []) first.1) ∙ covered-more (take count all) d in
    record {
      within = omega (arith, first.0);
      bytes = descriptor-put law old now after bytes all count d so_far.bytes puts
          (of_it ∙ ap descriptor_bytes (sym first.1)) first.0;
      rest = first.2;
      reached = omega (arith, so_far.reached, more);
    }

-- All descriptors are put, `count` of them, up to the address `next`.
pub record AllWritten (m : Contents) (capacity lba : ℕ) (old now : CutAnswer) (count next : ℕ) :
    Type 0 where
  pub bytes : now ≡ put old (flat_map descriptor_bytes (descriptors_from m capacity lba 512))
  pub count_is : count ≡ length (descriptors_from m capacity lba 512)
  pub reached : next ≡ lba + covered (descriptors_from m capacity lba 512)

all-of : (all : List StatusDescriptor) (n : ℕ) → drop n all ≡ [] → n ≤ length all
    → (take n all ≡ all) × (n ≡ length all)
all-of all n none le = let len = ap length none in let rest = length-drop n all in
    (take_all n all (omega arith), omega arith)

-- at the end of the disk, or with as many descriptors as an answer has at most
pub all-written : (m : Contents) (capacity lba : ℕ) (old now : CutAnswer) (count next : ℕ)
    → AreWritten m capacity lba old now count next → (capacity ≤ next) ⊎ (512 ≤ count)
    → AllWritten m capacity lba old now count next
all-written m capacity lba old now count next so_far ended =
    let all = descriptors_from m capacity lba 512 in
    let left : descriptors_from m capacity next (512 - count) ≡ [] = elim ended [
      | inl past ↦ descriptors-end m capacity next (512 - count) past
      | inr full ↦ let none : 512 - count ≡ 0 = omega arith in
          ap (descriptors_from m capacity next) none ∙ descriptors-none m capacity next
    ] in
    let end = all-of all count (so_far.rest ∙ left) so_far.within in
    record {
      bytes = so_far.bytes ∙ ap (λ ds. put old (flat_map descriptor_bytes ds)) end.0;
      count_is = end.1;
      reached = so_far.reached ∙ ap (λ ds. lba + covered ds) end.0;
    }

-- ---- The header before and after

header-length : (n : ℕ) → length (status_header n) ≡ 8
header-length n = refl

-- A header is put first, then descriptors.
module _ (law : PartsArePutInTurn) (cut : Cut) (begun after : CutAnswer) (first : List ℕ)
    (ds : List StatusDescriptor) (at : ℕ) (header : begun ≡ put (answer_of cut) first)
    (more : after ≡ put begun (flat_map descriptor_bytes ds))
    (start : at ≡ length (answer_of cut).written) where
  both : after ≡ put (answer_of cut) (first ++ flat_map descriptor_bytes ds)
  both = more ∙ ap (λ a. put a (flat_map descriptor_bytes ds)) header
      ∙ law.in_turn (answer_of cut) first (flat_map descriptor_bytes ds)

  pub header-within : PartsAreReplaced → at ≤ length after.written
  header-within kept =
      let longer = kept.kept cut (first ++ flat_map descriptor_bytes ds) in
      rw both (omega (arith, longer, start))

  -- the header with the number of descriptors is written over it
  pub header-replaced : PartsAreReplaced → (result : CutAnswer) (last : List ℕ) (count : ℕ)
      → first ≡ status_header 0 → last ≡ status_header count → count ≡ length ds
      → result ≡ replace after at last
      → result ≡ put (answer_of cut) (status_data ds)
  unfolding status_data
  header-replaced replacing result last count empty counted all replaces =
      let behind = flat_map descriptor_bytes ds in
      let lengths : length first ≡ length last = ap length empty ∙ header-length 0
      ∙ sym (ap length counted ∙ header-length count) in
      replaces ∙ ap (λ a. replace a at last) both
      ∙ ap (λ k. replace (put (answer_of cut) (first ++ behind)) k last) start
      ∙ replacing.replaced cut first last behind lengths
      ∙ ap (λ h. put (answer_of cut) (h ++ behind)) (counted ∙ ap status_header all)
