-- Joined ranges need as many blocks as the ranges as they were sent.
use Rattle.std.proofs.Common.{◌≡◌, ℕ, ◌+◌, ◌≤◌, ◌<◌, zero, suc, List, [], ◌∷◌, ◌++◌, sym, refl, ap}
use Rattle.std.proofs.Common.{ap₂, ◌∙◌, arith, cond, Bool, true, false, Some, is_some}
use Rattle.std.proofs.lemmas.Bool.Decides.{nat_tests}
use Rattle.std.specs.FinMap as map
use Rattle.std.specs.Prelude.{◌||◌, map}
use Rattle.sg_store.specs.Disk.{lies_in}
use Rattle.sg_target.specs.Anchoring.{need_of}
use Rattle.sg_target.specs.Extents.{AreOnDisk}
use Rattle.sg_target.specs.ProvisioningCommands.{changed_in_turn}
use Rattle.sg_store.specs.Disk.{Contents, anchored, need}
use Rattle.sg_store.specs.Disk.Mapping.{Anchored}
use Rattle.sg_target.specs.Joining.{covers, lies_in_some, AreDisjoint, AreJoined, AreWithin, range_of}
use Rattle.sg_target.specs.declared.joining.AddressRange.{AddressRange}
use Rattle.sg_wire.specs.declared.extent.Extent.{Extent}
use Rattle.sg_store.specs.Laws.{RemappingTakesWhatIsNeeded}
use Rattle.sg_target.proofs.AddressRangeLemmas.{or_left, not_true, true_false}
use Rattle.sg_target.proofs.InTurnLemmas.{changed-append, same}

-- ranges that are anchored in turn
abbrev pub anchored_over : Contents → List AddressRange → Contents
anchored_over m [] = m
anchored_over m (r ∷ rs) = anchored_over (anchored m r.lba r.count) rs

pub over-extents : (m : Contents) (extents : List Extent)
    → anchored_over m (map range_of extents) ≡ changed_in_turn anchored m extents
over-extents m [] = refl
over-extents m (e ∷ es) = over-extents (anchored m e.lba e.count) es

-- only the addresses matter
pub over-same : RemappingTakesWhatIsNeeded → (m : Contents) (xs ys : List AddressRange)
    → ((q : ℕ) → lies_in_some xs q ≡ lies_in_some ys q) → anchored_over m xs ≡ anchored_over m ys
over-same law =
    same covers (λ m r. anchored m r.lba r.count) anchored_over (λ m. refl) (λ m r rs. refl)
    (Some Anchored) (λ m r. law.found m r.lba r.count (λ index. Anchored))

-- a range needs as much if the same addresses in it have a slot
pub need-alike : RemappingTakesWhatIsNeeded → (m n : Contents) (a k : ℕ)
    → ((i : ℕ) → i < k → map.contains_key m (a + i) ≡ map.contains_key n (a + i))
    → need m a k ≡ need n a k
need-alike law m n a zero h = law.of_none m a ∙ sym (law.of_none n a)
need-alike law m n a (suc k) h =
    let e : suc k ≡ k + 1 = omega arith in
    rw (e, law.of_one_more m a k, law.of_one_more n a k) (
    ap₂ (λ (x : ℕ) (b : Bool). x + cond b 0 1)
    (need-alike law m n a k (λ i lt. h i (omega arith))) (h k (omega arith)))

pub inside : (a k i : ℕ) → i < k → lies_in a k (a + i) ≡ true
inside a k i lt = grind (arith, nat_tests)

-- addresses that are anchored elsewhere do not matter
need-elsewhere : RemappingTakesWhatIsNeeded → (m : Contents) (r : AddressRange) (rs : List AddressRange)
    → ((q : ℕ) → covers q r ≡ true → lies_in_some rs q ≡ false)
    → need_of (anchored m r.lba r.count) rs ≡ need_of m rs
need-elsewhere law m r [] h = refl
need-elsewhere law m r (s ∷ rs) h =
    let off : (i : ℕ) → i < s.count → covers (s.lba + i) r ≡ false =
    λ i lt. not_true (covers (s.lba + i) r) (λ f. true_false (inside s.lba s.count i lt)
    (or_left (covers (s.lba + i) s) (lies_in_some rs (s.lba + i)) (h (s.lba + i) f))) in
    ap₂ (λ x y. x + y)
    (need-alike law (anchored m r.lba r.count) m s.lba s.count (λ i lt.
    ap is_some (law.found m r.lba r.count (λ index. Anchored) (s.lba + i))
    ∙ ap (λ b. is_some (cond b (Some Anchored) (map.get m (s.lba + i)))) (off i lt)))
    (need-elsewhere law m r rs (λ q e. right (covers q s) (lies_in_some rs q) (h q e)))
  where
    right : (a b : Bool) → (a || b) ≡ false → b ≡ false
    right true b e = let wrong = e in cc
    right false b e = e

pub len-over : RemappingTakesWhatIsNeeded → (m : Contents) (rs : List AddressRange) → AreDisjoint rs
    → map.len (anchored_over m rs) ≡ map.len m + need_of m rs
len-over law m [] h = omega arith
len-over law m (r ∷ rs) h =
    let rest = len-over law (anchored m r.lba r.count) rs h.1 in
    let one = law.taken m r.lba r.count (λ index. Anchored) in
    let same = need-elsewhere law m r rs h.0 in
    omega arith

-- joined ranges need as many blocks as anchoring the extents takes
pub used-after : RemappingTakesWhatIsNeeded
    → (m : Contents) (extents : List Extent) (joined : List AddressRange)
    → AreJoined (map range_of extents) joined
    → (used needed : ℕ) → used ≡ map.len m → needed ≡ need_of m joined
    → map.len (changed_in_turn anchored m extents) ≡ used + needed
used-after law m extents joined h used needed u n =
    let all : map.len (changed_in_turn anchored m extents) ≡ map.len m + need_of m joined =
    ap map.len (sym (over-extents m extents) ∙ over-same law m (map range_of extents) joined
    (λ q. sym (h.same q)))
    ∙ len-over law m joined h.disjoint in
    omega (arith, all, u, n)

-- ---- the extents in turn

len-grows : RemappingTakesWhatIsNeeded → (m : Contents) (extents : List Extent)
    → map.len m ≤ map.len (changed_in_turn anchored m extents)
len-grows law m [] = omega arith
len-grows law m (e ∷ es) =
    let rest = len-grows law (anchored m e.lba e.count) es in
    let one = law.taken m e.lba e.count (λ index. Anchored) in
    omega arith

-- there is room up to each extent if there is room for all
pub room-first : RemappingTakesWhatIsNeeded → (m : Contents) (xs ys : List Extent)
    → map.len (changed_in_turn anchored m xs) ≤ map.len (changed_in_turn anchored m (xs ++ ys))
room-first law m xs ys = let more = len-grows law (changed_in_turn anchored m xs) ys in
    let e = ap map.len (changed-append anchored m xs ys) in omega arith

pub ranges-within : (capacity : ℕ) (extents : List Extent) → AreOnDisk capacity extents
    → AreWithin capacity (map range_of extents)
ranges-within capacity [] h = tt
ranges-within capacity (e ∷ es) h = (h.0, ranges-within capacity es h.1)

pub within-weaker : (low high : ℕ) (rs : List AddressRange) → low ≤ high → AreWithin low rs
    → AreWithin high rs
within-weaker low high [] le h = tt
within-weaker low high (r ∷ rs) le h = (omega (arith, h.0), within-weaker low high rs le h.1)
