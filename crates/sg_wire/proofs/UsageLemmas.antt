-- CDB USAGE DATA, bit by bit. The table is closed, so each test of it computes.
use Rattle.std.proofs.Common.{◌≡◌, ◌≢◌, ◌<◌, ◌≤◌, ℕ, ◌+◌, ◌-◌, ◌^◌, suc, List, [], ◌∷◌, length, get_or}
use Rattle.std.proofs.Common.{filter, Bool, true, false, not, cond, Some, refl, sym, ap, ◌∙◌, arith}
use Rattle.std.proofs.lemmas.Bool.{and_parts, eqb-true, eqb-false}
use Rattle.std.proofs.lemmas.List.Folds.{list_all_at}
use Rattle.std.proofs.lemmas.List.FromFn.{get_or-range_with_len, length-map-range_with_len}
use Rattle.std.proofs.lemmas.List.FromFn.{length-range_with_len}
use Rattle.std.specs.List.{Contains, list_all, range_with_len}
use Rattle.std.specs.Prelude.{bit_and, slice_index, ◌==◌, ◌&&◌, ◌||◌, if◌then◌else◌}
use Rattle.sg_wire.specs.Bits.{has_bit}
use Rattle.sg_wire.specs.CdbDecoding.{action_places, first_bad, mask_of, masks}
use Rattle.sg_wire.specs.Laws.{IsBitOf, is_evaluated, is_within}
use Rattle.sg_wire.specs.Layout.{Layout, length_of, table}
use Rattle.sg_wire.specs.Profile.{is_in}
use Rattle.sg_wire.specs.SupportedOperations.{rows_of, usage_data}
use Rattle.sg_wire.specs.declared.profile.Profile.{Profile}
use Rattle.sg_wire.specs.declared.profile.Profile.TheVariants.{Base, Extended}
use Rattle.sg_wire.proofs.FieldLemmas.{within-mask}

-- ---- tests of all elements

module _ {X : Type 0} (p : X → Bool) where
  at-by : (xs : List X) (i : ℕ) (d : X) (b : Bool) → p (get_or xs i d) ≡ b → i < length xs
      → list_all p xs ≡ true → p (get_or xs i d) ≡ true
  at-by xs i d true e h all = e
  at-by xs i d false e h all =
      let no : list_all p xs ≡ false = list_all_at p xs i d h e in cc

  at : (xs : List X) (i : ℕ) (d : X) → i < length xs → list_all p xs ≡ true
      → p (get_or xs i d) ≡ true
  at xs i d h all = at-by xs i d (p (get_or xs i d)) refl h all

  kept-by : (q : X → Bool) (x : X) (xs : List X) (b : Bool) → p x ≡ true
      → list_all p (filter q xs) ≡ true → list_all p (cond b (x ∷ filter q xs) (filter q xs)) ≡ true
  kept-by q x xs true e all = ap (λ b. b && list_all p (filter q xs)) e ∙ all
  kept-by q x xs false e all = all

  kept : (q : X → Bool) (xs : List X) → list_all p xs ≡ true → list_all p (filter q xs) ≡ true
  kept q [] all = refl
  kept q (x ∷ xs) all =
      let both = and_parts (p x) (list_all p xs) all in
      kept-by q x xs (q x) both.0 (kept q xs both.1)

in-range : (p : ℕ → Bool) (a n k : ℕ) → list_all p (range_with_len a n) ≡ true → a ≤ k → k < a + n
    → p k ≡ true
in-range p a n k all h within =
    let i = k - a in
    let inside : i < n = omega arith in
    let there : get_or (range_with_len a n) i 0 ≡ k =
    get_or-range_with_len a n i 0 inside ∙ omega arith in
    ap p (sym there)
    ∙ at p (range_with_len a n) i 0 (omega (arith, length-range_with_len a n)) all

-- ---- the rows of a profile

module _ (test : Layout → Bool) (every : list_all test table ≡ true) where
  of-row : (profile : Profile) (l : Layout) → Contains (rows_of profile) l → test l ≡ true
  of-row profile l there =
      ap test (sym there.2)
      ∙ at test (rows_of profile) there.0 l there.1
      (kept test (λ l. is_in l.profile profile) table every)

-- ---- bits

abbrev same : Bool → Bool → Bool
same a b = if a then b else not b

alike : (a b : Bool) → same a b ≡ true → a ≡ b
alike true true e = refl
alike true false e = cc
alike false true e = cc
alike false false e = refl

abbrev bit_agrees : Layout → (k i : ℕ) → Bool
bit_agrees l k i =
    is_within (action_places l.action) k i
    || same (has_bit (slice_index (usage_data l) k) (2 ^ i)) (is_evaluated l k i)

abbrev byte_agrees : Layout → ℕ → Bool
byte_agrees l k = list_all (bit_agrees l k) (range_with_len 0 8)

abbrev row_agrees : Layout → Bool
row_agrees l = list_all (byte_agrees l) (range_with_len 1 (length_of l.opcode - 1))

rows-agree : list_all row_agrees table ≡ true
rows-agree = refl

beside : (a b : Bool) → (a || b) ≡ true → a ≡ false → b ≡ true
beside true b e h = cc
beside false b e h = e

pub bit-evaluated : (profile : Profile) (l : Layout) (k i : ℕ) → Contains (rows_of profile) l
    → IsBitOf l k i → has_bit (slice_index (usage_data l) k) (2 ^ i) ≡ is_evaluated l k i
bit-evaluated profile l k i there h =
    let row = of-row row_agrees rows-agree profile l there in
    let byte = in-range (byte_agrees l) 1 (length_of l.opcode - 1) k row h.0 (omega (arith, h.0, h.1)) in
    let bit = in-range (bit_agrees l k) 0 8 i byte (omega arith) (omega (arith, h.2)) in
    alike _ _ (beside _ _ bit h.3)

-- ---- bytes

abbrev byte_within : Layout → ℕ → Bool
byte_within l k =
    bit_and (slice_index (usage_data l) k) (slice_index (masks l) k) == slice_index (usage_data l) k

abbrev row_within : Layout → Bool
row_within l = list_all (byte_within l) (range_with_len 0 (length_of l.opcode))

rows-within : list_all row_within table ≡ true
rows-within = refl

-- a mask is within the extended disk's
abbrev mask_within : Layout → ℕ → Bool
mask_within l k = bit_and (mask_of Base l k) (mask_of Extended l k) == mask_of Base l k

abbrev masks_within : Layout → Bool
masks_within l = list_all (mask_within l) (range_with_len 0 (length_of l.opcode))

masks-within : list_all masks_within table ≡ true
masks-within = refl

pub bits-added : (l : Layout) (k : ℕ) → Contains (rows_of Base) l → k < length_of l.opcode
    → bit_and (mask_of Base l k) (mask_of Extended l k) ≡ mask_of Base l k
bits-added l k there h =
    eqb-true _ _ (in-range (mask_within l) 0 (length_of l.opcode) k
    (of-row masks_within masks-within Base l there) (omega arith) (omega (arith, h)))

-- the first bad byte is bad
record IsBad (masks cdb : List ℕ) (i : ℕ) : Type 0 where
  within : i < length masks
  bad : bit_and (get_or cdb i 0) (get_or masks i 0) ≢ get_or cdb i 0

record IsBadFrom (n : ℕ) (masks cdb : List ℕ) (k : ℕ) : Type 0 where
  index : ℕ
  place : n + index ≡ k
  is_bad : IsBad masks cdb index

bad-by : (n k mask byte : ℕ) (masks cdb : List ℕ) (fits : Bool)
    → (bit_and byte mask == byte) ≡ fits
    → (first_bad (n + 1) masks cdb ≡ Some k → IsBadFrom (n + 1) masks cdb k)
    → cond fits (first_bad (n + 1) masks cdb) (Some n) ≡ Some k
    → IsBadFrom n (mask ∷ masks) (byte ∷ cdb) k
bad-by n k mask byte masks cdb true e later h =
    let m = later h in
    record {
      index = suc m.index;
      place = omega (arith, m.place);
      is_bad = record { within = omega (arith, m.is_bad.within); bad = m.is_bad.bad };
    }
bad-by n k mask byte masks cdb false e later h =
    let same : n ≡ k = cc in
    record {
      index = 0;
      place = omega (arith, same);
      is_bad = record { within = omega arith; bad = eqb-false (bit_and byte mask) byte e };
    }

bad-from : (n k : ℕ) (masks cdb : List ℕ) → first_bad n masks cdb ≡ Some k
    → IsBadFrom n masks cdb k
bad-from n k [] cdb e = cc
bad-from n k (mask ∷ masks) [] e = cc
bad-from n k (mask ∷ masks) (byte ∷ cdb) e =
    bad-by n k mask byte masks cdb (bit_and byte mask == byte) refl (bad-from (n + 1) k masks cdb) e

pub byte-allowed : (profile : Profile) (l : Layout) (k : ℕ) (cdb : List ℕ)
    → Contains (rows_of profile) l
    → bit_and (slice_index cdb k) (slice_index (usage_data l) k) ≡ slice_index cdb k
    → first_bad 0 (masks l) cdb ≢ Some k
byte-allowed profile l k cdb there only e =
    let m = bad-from 0 k (masks l) cdb e in
    let place : m.index ≡ k = omega (arith, m.place) in
    let size : length (masks l) ≡ length_of l.opcode =
    length-map-range_with_len (mask_of Extended l) 0 (length_of l.opcode) in
    let row = of-row row_within rows-within profile l there in
    let byte = in-range (byte_within l) 0 (length_of l.opcode) k row (omega arith)
    (omega (arith, m.is_bad.within, place, size)) in
    let ok : bit_and (slice_index cdb k) (slice_index (masks l) k) ≡ slice_index cdb k =
    within-mask _ _ _ only (eqb-true _ _ byte) in
    m.is_bad.bad (ap (λ i. bit_and (get_or cdb i 0) (get_or (masks l) i 0)) place ∙ ok
    ∙ ap (λ i. get_or cdb i 0) (sym place))
