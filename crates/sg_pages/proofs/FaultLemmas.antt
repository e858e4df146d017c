-- The least offset of faults that come in parts.
use Rattle.std.proofs.Common.{◌≡◌, ◌≤◌, ◌<◌, ℕ, suc, ◌+◌, ◌-◌, min, List, [], ◌∷◌, ◌++◌, length}
use Rattle.std.proofs.Common.{take, drop, get_or, Bool, true, false, cond, refl, sym, ap, ◌∙◌}
use Rattle.std.proofs.Common.{arith, inl, inr, subst}
use Rattle.std.specs.Prelude.{Option, Some, None, IfSome, bit_or, nat_lt, ◌==◌}
use Rattle.std.specs.Option.{option_or, option_map, option_map_or}
use Rattle.std.proofs.lemmas.List.{length-take, length-drop, drop_more, drop_all, take_min}
use Rattle.std.proofs.lemmas.List.{take_rest}
use Rattle.std.proofs.lemmas.Bool.{ltb-true, eq-eqb, ne_eqb, cases_lt, lt-ltb, le-ltb}
use Rattle.sg_pages.specs.declared.mode_pages.mode_select.ModeSelectFault.TheVariants.{Length}
use Rattle.sg_pages.specs.declared.mode_pages.mode_select.ModeSelectFault.TheVariants.{Field}
use Rattle.sg_pages.specs.ModeSelect.{Part, part_at, differences, truncation_of, part_faults, least}
use Rattle.sg_pages.specs.ModeSelect.{fault_at, first_fault}

-- every offset is at least n, and every offset is below n
abbrev pub From : ℕ → List ℕ → Type 0
From n [] = Unit {0}
From n (x ∷ xs) = (n ≤ x) × From n xs

abbrev pub Below : ℕ → List ℕ → Type 0
Below n [] = Unit {0}
Below n (x ∷ xs) = (x < n) × Below n xs

pub From-weaker : (m n : ℕ) (xs : List ℕ) → n ≤ m → From m xs → From n xs
From-weaker m n [] h k = tt
From-weaker m n (x ∷ xs) h (k, ks) = (omega arith, From-weaker m n xs h ks)

pub Below-weaker : (m n : ℕ) (xs : List ℕ) → m ≤ n → Below m xs → Below n xs
Below-weaker m n [] h k = tt
Below-weaker m n (x ∷ xs) h (k, ks) = (omega arith, Below-weaker m n xs h ks)

pub From-append : (n : ℕ) (xs ys : List ℕ) → From n xs → From n ys → From n (xs ++ ys)
From-append n [] ys h k = k
From-append n (x ∷ xs) ys (h, hs) k = (h, From-append n xs ys hs k)

pub Below-append : (n : ℕ) (xs ys : List ℕ) → Below n xs → Below n ys → Below n (xs ++ ys)
Below-append n [] ys h k = k
Below-append n (x ∷ xs) ys (h, hs) k = (h, Below-append n xs ys hs k)

-- ---- The least offset

min-from : (n x : ℕ) (o : Option ℕ) → n ≤ x → IfSome o (λ m. n ≤ m) → n ≤ option_map_or (min x) o x
min-from n x None h k = h
min-from n x (Some m) h k = omega arith

pub least-from : (n : ℕ) (xs : List ℕ) → From n xs → IfSome (least xs) (λ m. n ≤ m)
least-from n [] h = tt
least-from n (x ∷ xs) (h, hs) = min-from n x (least xs) h (least-from n xs hs)

min-below : (n x : ℕ) (o : Option ℕ) → x < n → option_map_or (min x) o x < n
min-below n x None h = h
min-below n x (Some m) h = omega arith

pub least-below : (n : ℕ) (xs : List ℕ) → Below n xs → IfSome (least xs) (λ m. m < n)
least-below n [] h = tt
least-below n (x ∷ xs) (h, hs) = min-below n x (least xs) h

min-first : (x : ℕ) (o : Option ℕ) → IfSome o (λ m. x ≤ m) → option_map_or (min x) o x ≡ x
min-first x None k = refl
min-first x (Some m) k = omega arith

-- the first of offsets that rise is the least
pub least-first : (x : ℕ) (xs : List ℕ) → From x xs → least (x ∷ xs) ≡ Some x
least-first x xs h = ap Some (min-first x (least xs) (least-from x xs h))

join : (x n : ℕ) (o p : Option ℕ) → x < n → IfSome p (λ m. n ≤ m)
    → Some (option_map_or (min x) (option_or o p) x)
    ≡ option_or (Some (option_map_or (min x) o x)) p
join x n (Some m) p h k = refl
join x n None None h k = refl
join x n None (Some m) h k = ap Some (min-first x (Some m) (omega arith))

-- offsets below n, and offsets from n on
pub least-append : (n : ℕ) (a b : List ℕ) → Below n a → From n b → least (a ++ b)
    ≡ option_or (least a) (least b)
least-append n [] b h k = refl
least-append n (x ∷ xs) b (h, hs) k =
    ap (λ o. Some (option_map_or (min x) o x)) (least-append n xs b hs k)
    ∙ join x n (least xs) (least b) h (least-from n b k)

map-or : {A B : Type 0} (f : A → B) (o p : Option A) → option_map f (option_or o p)
    ≡ option_or (option_map f o) (option_map f p)
map-or f None p = refl
map-or f (Some x) p = refl

-- the first fault of two parts, one after the other
pub first_fault-append : (list_length n : ℕ) (a b : List ℕ) → Below n a → From n b
    → first_fault list_length (a ++ b)
    ≡ option_or (first_fault list_length a) (first_fault list_length b)
unfolding first_fault
first_fault-append list_length n a b h k =
    ap (option_map (fault_at list_length)) (least-append n a b h k)
    ∙ map-or (fault_at list_length) (least a) (least b)

-- ---- Differences

cond-from : (c : Bool) (offset : ℕ) (rest : List ℕ) → From (offset + 1) rest
    → From offset (cond c rest (offset ∷ rest))
cond-from true offset rest h = From-weaker (offset + 1) offset rest (omega arith) h
cond-from false offset rest h = (omega arith, From-weaker (offset + 1) offset rest (omega arith) h)

cond-below : (c : Bool) (offset n : ℕ) (rest : List ℕ) → offset < n → Below n rest
    → Below n (cond c rest (offset ∷ rest))
cond-below true offset n rest h k = k
cond-below false offset n rest h k = (h, k)

pub differences-from : (offset : ℕ) (expected ignored bytes : List ℕ)
    → From offset (differences offset expected ignored bytes)
differences-from offset [] ignored bytes = tt
differences-from offset (o ∷ expected) [] bytes = tt
differences-from offset (o ∷ expected) (m ∷ ignored) [] = tt
differences-from offset (o ∷ expected) (m ∷ ignored) (b ∷ bytes) =
    cond-from (bit_or b m == bit_or o m) offset (differences (offset + 1) expected ignored bytes)
    (differences-from (offset + 1) expected ignored bytes)

pub differences-below : (offset : ℕ) (expected ignored bytes : List ℕ)
    → Below (offset + length bytes) (differences offset expected ignored bytes)
differences-below offset [] ignored bytes = tt
differences-below offset (o ∷ expected) [] bytes = tt
differences-below offset (o ∷ expected) (m ∷ ignored) [] = tt
differences-below offset (o ∷ expected) (m ∷ ignored) (b ∷ bytes) =
    cond-below (bit_or b m == bit_or o m) offset (offset + suc (length bytes))
    (differences (offset + 1) expected ignored bytes) (omega arith)
    (Below-weaker (offset + 1 + length bytes) (offset + suc (length bytes)) _ (omega arith)
    (differences-below (offset + 1) expected ignored bytes))

pub differences-below-expected : (offset : ℕ) (expected ignored bytes : List ℕ)
    → Below (offset + length expected) (differences offset expected ignored bytes)
differences-below-expected offset [] ignored bytes = tt
differences-below-expected offset (o ∷ expected) [] bytes = tt
differences-below-expected offset (o ∷ expected) (m ∷ ignored) [] = tt
differences-below-expected offset (o ∷ expected) (m ∷ ignored) (b ∷ bytes) =
    cond-below (bit_or b m == bit_or o m) offset (offset + suc (length expected))
    (differences (offset + 1) expected ignored bytes) (omega arith)
    (Below-weaker (offset + 1 + length expected) (offset + suc (length expected)) _ (omega arith)
    (differences-below-expected (offset + 1) expected ignored bytes))

pub differences-nil : (offset : ℕ) (expected ignored : List ℕ)
    → differences offset expected ignored [] ≡ []
differences-nil offset [] ignored = refl
differences-nil offset (o ∷ expected) [] = refl
differences-nil offset (o ∷ expected) (m ∷ ignored) = refl

-- two stretches, one after the other
pub differences-append : (offset : ℕ) (expected expected' ignored ignored' bytes bytes' : List ℕ)
    → length ignored ≡ length expected → length bytes ≡ length expected →
    differences offset (expected ++ expected') (ignored ++ ignored') (bytes ++ bytes')
    ≡ differences offset expected ignored bytes ++ differences
    (offset + length expected) expected' ignored' bytes'
differences-append offset [] expected' [] ignored' [] bytes' h k =
    ap (λ p. differences p expected' ignored' bytes') (omega arith)
differences-append offset [] expected' (m ∷ ignored) ignored' bytes bytes' h k =
    absurd (omega arith)
differences-append offset [] expected' [] ignored' (b ∷ bytes) bytes' h k = absurd (omega arith)
differences-append offset (o ∷ expected) expected' [] ignored' bytes bytes' h k =
    absurd (omega arith)
differences-append offset (o ∷ expected) expected' (m ∷ ignored) ignored' [] bytes' h k =
    absurd (omega arith)
differences-append offset (o ∷ expected) expected' (m ∷ ignored) ignored' (b ∷ bytes) bytes' h k =
    let rest = differences (offset + 1) expected ignored bytes in
    let far : differences (offset + 1 + length expected) expected' ignored' bytes'
    ≡ differences (offset + suc (length expected)) expected' ignored' bytes' =
    ap (λ p. differences p expected' ignored' bytes') (omega arith) in
    ap (λ r. cond (bit_or b m == bit_or o m) r (offset ∷ r))
    (differences-append (offset + 1) expected expected' ignored ignored' bytes bytes' (omega arith)
    (omega arith) ∙ ap (λ r. rest ++ r) far)
    ∙ cond-append (bit_or b m == bit_or o m) offset rest
    (differences (offset + suc (length expected)) expected' ignored' bytes')
  where
    cond-append : (c : Bool) (x : ℕ) (xs ys : List ℕ) → cond c (xs ++ ys) (x ∷ (xs ++ ys))
        ≡ cond c xs (x ∷ xs) ++ ys
    cond-append true x xs ys = refl
    cond-append false x xs ys = refl

-- ---- The end of a part

cut-below : (n size offset : ℕ) (c : Bool) → nat_lt n size ≡ c
    → Below (offset + size) (cond c ((offset + n) ∷ []) [])
cut-below n size offset false h = tt
cut-below n size offset true h = let less : n < size = ltb-true n size h in (omega arith, tt)

pub truncation_of-below : (p : Part) → Below (p.offset + p.size) (truncation_of p)
truncation_of-below p = cut-below (length p.bytes) p.size p.offset
    (nat_lt (length p.bytes) p.size) refl

cut-from : (n offset : ℕ) (c : Bool) → From (offset + n) (cond c ((offset + n) ∷ []) [])
cut-from n offset false = tt
cut-from n offset true = (omega arith, tt)

pub truncation_of-from : (p : Part) → From (p.offset + length p.bytes) (truncation_of p)
truncation_of-from p = cut-from (length p.bytes) p.offset (nat_lt (length p.bytes) p.size)

-- the faults of a part are not before it
pub part_faults-from : (expected ignored : List ℕ) (offset size : ℕ) (list : List ℕ)
    → From offset (part_faults expected ignored (part_at offset size list))
part_faults-from expected ignored offset size list =
    let p = part_at offset size list in
    From-append offset (differences offset expected ignored p.bytes) (truncation_of p)
    (differences-from offset expected ignored p.bytes)
    (From-weaker (offset + length p.bytes) offset (truncation_of p) (omega arith)
    (truncation_of-from p))

pub part_faults-below : (expected ignored : List ℕ) (offset size : ℕ) (list : List ℕ)
    → Below (offset + size) (part_faults expected ignored (part_at offset size list))
part_faults-below expected ignored offset size list =
    let p = part_at offset size list in
    Below-append (offset + size) (differences offset expected ignored p.bytes) (truncation_of p)
    (Below-weaker (offset + length p.bytes) (offset + size)
    (differences offset expected ignored p.bytes)
    (omega (arith, length-take size (drop offset list)))
    (differences-below offset expected ignored p.bytes))
    (truncation_of-below p)

-- ---- The rest of a stretch

-- the rest from a byte that all three lists have
rest-cons : (offset k : ℕ) (expected ignored sent : List ℕ) → k < length expected
    → k < length ignored → k < length sent →
    (let o = get_or expected k 0 in let m = get_or ignored k 0 in let b = get_or sent k 0 in
    let rest = differences (offset + (k + 1)) (drop (k + 1) expected) (drop (k + 1) ignored)
    (drop (k + 1) sent) in
    differences (offset + k) (drop k expected) (drop k ignored) (drop k sent)
    ≡ cond (bit_or b m == bit_or o m) rest ((offset + k) ∷ rest))
rest-cons offset k expected ignored sent h i j =
    let o = get_or expected k 0 in
    let m = get_or ignored k 0 in
    let b = get_or sent k 0 in
    let far : offset + k + 1 ≡ offset + (k + 1) = omega arith in
    ap (λ x. differences (offset + k) x (drop k ignored) (drop k sent)) (drop_more expected k 0 h)
    ∙ (ap (λ x. differences (offset + k) (o ∷ drop (k + 1) expected) x (drop k sent))
    (drop_more ignored k 0 i)
    ∙ (ap (λ x. differences (offset + k) (o ∷ drop (k + 1) expected) (m ∷ drop (k + 1) ignored) x)
    (drop_more sent k 0 j)
    ∙ ap (λ p. let rest = differences p (drop (k + 1) expected) (drop (k + 1) ignored)
    (drop (k + 1) sent) in cond (bit_or b m == bit_or o m) rest ((offset + k) ∷ rest)) far))

-- a byte that does not differ
pub rest-same : (offset k : ℕ) (expected ignored sent : List ℕ) → k < length expected
    → k < length ignored → k < length sent →
    bit_or (get_or sent k 0) (get_or ignored k 0)
    ≡ bit_or (get_or expected k 0) (get_or ignored k 0) →
    least (differences (offset + (k + 1)) (drop (k + 1) expected) (drop (k + 1) ignored)
    (drop (k + 1) sent)) ≡ least (differences (offset + k) (drop k expected) (drop k ignored)
    (drop k sent))
rest-same offset k expected ignored sent h i j e =
    let rest = differences (offset + (k + 1)) (drop (k + 1) expected) (drop (k + 1) ignored)
    (drop (k + 1) sent) in
    ap least (sym (rest-cons offset k expected ignored sent h i j
    ∙ ap (λ c. cond c rest ((offset + k) ∷ rest)) (eq-eqb _ _ e)))

-- the first byte that differs
pub rest-differs : (offset k : ℕ) (expected ignored sent : List ℕ) → k < length expected
    → k < length ignored → k < length sent →
    (bit_or (get_or sent k 0) (get_or ignored k 0)
    ≡ bit_or (get_or expected k 0) (get_or ignored k 0) → ⊥) →
    least (differences (offset + k) (drop k expected) (drop k ignored) (drop k sent))
    ≡ Some (offset + k)
rest-differs offset k expected ignored sent h i j e =
    let rest = differences (offset + (k + 1)) (drop (k + 1) expected) (drop (k + 1) ignored)
    (drop (k + 1) sent) in
    let from = From-weaker (offset + (k + 1)) (offset + k) rest (omega arith)
    (differences-from (offset + (k + 1)) (drop (k + 1) expected) (drop (k + 1) ignored)
    (drop (k + 1) sent)) in
    ap least (rest-cons offset k expected ignored sent h i j
    ∙ ap (λ c. cond c rest ((offset + k) ∷ rest)) (ne_eqb _ _ e))
    ∙ least-first (offset + k) rest from

-- past the end of either
pub rest-none : (offset k : ℕ) (expected ignored sent : List ℕ)
    → min (length expected) (length sent) ≤ k
    → differences (offset + k) (drop k expected) (drop k ignored) (drop k sent) ≡ []
rest-none offset k expected ignored sent h =
    elim (cases_lt k (length expected)) as
    (λ _. differences (offset + k) (drop k expected) (drop k ignored) (drop k sent) ≡ []) [
      | inr short ↦ ap (λ x. differences (offset + k) x (drop k ignored) (drop k sent))
          (drop_all k expected short)
      | inl long ↦ let few : length sent ≤ k = omega arith in
          ap (differences (offset + k) (drop k expected) (drop k ignored)) (drop_all k sent few)
          ∙ differences-nil (offset + k) (drop k expected) (drop k ignored)
    ]

-- ---- A part

pub least-none : (xs : List ℕ) → None ≡ least xs → xs ≡ []
least-none [] h = refl
least-none (x ∷ xs) h = cc

pub field : (list_length offset : ℕ) → offset < list_length → fault_at list_length offset
    ≡ Field offset
field list_length offset h = ap (λ c. cond c (Field offset) Length) (lt-ltb offset list_length h)

end : (list_length offset : ℕ) → offset ≡ list_length → fault_at list_length offset ≡ Length
end list_length offset h = ap (λ c. cond c (Field offset) Length)
    (le-ltb offset list_length (omega arith))

-- a byte differs
pub part-different : (expected ignored : List ℕ) (offset size : ℕ) (list : List ℕ) (d : ℕ)
    → offset ≤ length list →
    (let p = part_at offset size list in
    Some d ≡ least (differences offset expected ignored p.bytes)
    → first_fault (length list) (part_faults expected ignored p) ≡ Some (Field d))
unfolding first_fault
part-different expected ignored offset size list d h e =
    let p = part_at offset size list in
    let different = differences offset expected ignored p.bytes in
    let end = offset + length p.bytes in
    let below : IfSome (Some d) (λ m. m < end) =
    subst (λ (o : Option ℕ). IfSome o (λ m. m < end)) (sym e)
    (least-below end different (differences-below offset expected ignored p.bytes)) in
    let inside : d < length list = omega
    (arith, below, length-take size (drop offset list), length-drop offset list) in
    ap (option_map (fault_at (length list)))
    (least-append end different (truncation_of p)
    (differences-below offset expected ignored p.bytes) (truncation_of-from p)
    ∙ ap (λ o. option_or o (least (truncation_of p))) (sym e))
    ∙ ap Some (field (length list) d inside)

-- no byte differs, and the list ends within the part
pub part-short : (expected ignored : List ℕ) (offset size : ℕ) (list : List ℕ)
    → offset ≤ length list →
    (let p = part_at offset size list in
    None ≡ least (differences offset expected ignored p.bytes) → length p.bytes < size
    → first_fault (length list) (part_faults expected ignored p) ≡ Some Length)
unfolding first_fault
part-short expected ignored offset size list h e short =
    let p = part_at offset size list in
    let at_end : offset + length p.bytes ≡ length list =
    omega (arith, length-take size (drop offset list), length-drop offset list) in
    ap (λ xs. option_map (fault_at (length list)) (least (xs ++ truncation_of p)))
    (least-none (differences offset expected ignored p.bytes) e)
    ∙ (ap (λ c. option_map (fault_at (length list))
    (least (cond c ((offset + length p.bytes) ∷ []) []))) (lt-ltb (length p.bytes) size short)
    ∙ ap Some (end (length list) (offset + length p.bytes) at_end))

-- no byte differs, and the part is whole
pub part-whole : (expected ignored : List ℕ) (offset size : ℕ) (list : List ℕ) →
    (let p = part_at offset size list in
    None ≡ least (differences offset expected ignored p.bytes) → size ≤ length p.bytes
    → first_fault (length list) (part_faults expected ignored p) ≡ None)
unfolding first_fault
part-whole expected ignored offset size list e whole =
    let p = part_at offset size list in
    ap (λ xs. option_map (fault_at (length list)) (least (xs ++ truncation_of p)))
    (least-none (differences offset expected ignored p.bytes) e)
    ∙ ap (λ c. option_map (fault_at (length list))
    (least (cond c ((offset + length p.bytes) ∷ []) []))) (le-ltb (length p.bytes) size whole)

-- a part of a slice that is clipped to its end
pub clipped : (n size offset : ℕ) (list : List ℕ)
    → (let rest = take (length list - offset) (drop offset list) in
    n ≡ min size (length rest) → take n rest ≡ take size (drop offset list))
clipped n size offset list h =
    let rest = take (length list - offset) (drop offset list) in
    ap (λ k. take k rest) h ∙ (take_min size rest ∙ ap (take size) (take_rest list offset))
