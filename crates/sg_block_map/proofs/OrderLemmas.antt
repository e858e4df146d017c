-- Runs between bounds. None of them could be joined to the next.
use Rattle.std.proofs.Common.{◌≡◌, ℕ, ◌+◌, ◌<◌, ◌≤◌, List, [], ◌∷◌, ◌++◌, cond}
use Rattle.std.proofs.Common.{Bool, true, false, refl, arith, Option, Some, None}
use Rattle.std.specs.Prelude.{option_to_list, IfSome}
use Rattle.sg_table.specs.Records.{IsSorted, same_kind}
use Rattle.sg_table.specs.declared.run.Kind.{Kind}
use Rattle.sg_table.specs.declared.run.Kind.TheVariants.{Data, Anchored}
use Rattle.sg_table.specs.declared.run.Run.{Run}
use Rattle.sg_block_map.specs.Runs.{Bound, any_from, behind, begins, AreMaximalIn, AreMaximal}
use Rattle.sg_pool.specs.Rising.{end_of, AreApart}
use Rattle.sg_pool.proofs.RisingLemmas.{apart-sorted}

-- ---- Bounds

pub one_more-low : (b : Bool) (n : ℕ) → n ≤ cond b (n + 1) n
one_more-low true n = omega arith
one_more-low false n = omega arith

pub one_more-high : (b : Bool) (n : ℕ) → cond b (n + 1) n ≤ n + 1
one_more-high true n = omega arith
one_more-high false n = omega arith

pub behind-low : (run : Run) (kind : Kind) → end_of run ≤ behind run kind
behind-low run kind = one_more-low (same_kind kind run.kind) (end_of run)

pub behind-high : (run : Run) (kind : Kind) → behind run kind ≤ end_of run + 1
behind-high run kind = one_more-high (same_kind kind run.kind) (end_of run)

-- A bound is narrow if its address for one kind is at most one past its address for another.
abbrev pub IsNarrow : Bound → Type 0
IsNarrow low = (j k : Kind) → low j ≤ low k + 1

pub narrow-any : (lba : ℕ) → IsNarrow (any_from lba)
narrow-any lba j k = omega arith

pub narrow-behind : (run : Run) → IsNarrow (behind run)
narrow-behind run j k = omega (arith, behind-high run j, behind-low run k)

abbrev pub AtMost : Bound → Bound → Type 0
AtMost low high = (kind : Kind) → low kind ≤ high kind

-- a bound reaches the bound that a run begins at
pub begins-reach : (low : Bound) (kind : Kind) (lba : ℕ) → IsNarrow low → low kind ≤ lba
    → AtMost low (begins kind lba)
begins-reach low kind lba narrow le other = at kind other (narrow other kind) le
  where
    at : (kind other : Kind) → low other ≤ low kind + 1 → low kind ≤ lba
        → low other ≤ begins kind lba other
    at Data Data n l = l
    at Data Anchored n l = omega arith
    at Anchored Data n l = omega arith
    at Anchored Anchored n l = l

pub begins-at : (kind : Kind) (lba : ℕ) → begins kind lba kind ≡ lba
begins-at Data lba = refl
begins-at Anchored lba = refl

pub begins-high : (kind other : Kind) (lba : ℕ) → begins kind lba other ≤ lba + 1
begins-high Data Data lba = omega arith
begins-high Data Anchored lba = omega arith
begins-high Anchored Data lba = omega arith
begins-high Anchored Anchored lba = omega arith

pub begins-low : (kind other : Kind) (lba : ℕ) → lba ≤ begins kind lba other
begins-low Data Data lba = omega arith
begins-low Data Anchored lba = omega arith
begins-low Anchored Data lba = omega arith
begins-low Anchored Anchored lba = omega arith

pub behind-own : (run : Run) → behind run run.kind ≡ end_of run + 1
behind-own run = at run.kind (end_of run)
  where
    at : (kind : Kind) (n : ℕ) → cond (same_kind kind kind) (n + 1) n ≡ n + 1
    at Data n = refl
    at Anchored n = refl

-- the bound after a run, and the bound after a run that ends there or later
pub behind-at-most : (a b : Run) → a.kind ≡ b.kind → end_of a ≤ end_of b
    → AtMost (behind a) (behind b)
behind-at-most a b same le kind = rw same (less (same_kind kind b.kind) (end_of a) (end_of b) le)
  where
    less : (b : Bool) (m n : ℕ) → m ≤ n → cond b (m + 1) m ≤ cond b (n + 1) n
    less true m n le = omega arith
    less false m n le = le

-- kinds that are the same
pub same_kind-swap : (j k : Kind) → same_kind j k ≡ same_kind k j
same_kind-swap Data Data = refl
same_kind-swap Data Anchored = refl
same_kind-swap Anchored Data = refl
same_kind-swap Anchored Anchored = refl

-- ---- Runs

pub maximal-le : (runs : List Run) (low high : Bound) → IsNarrow low → AreMaximalIn low high runs
    → AtMost low high
maximal-le [] low high narrow h kind = h kind
maximal-le (run ∷ runs) low high narrow h kind =
    let rest = maximal-le runs (behind run) high (narrow-behind run) h.2 kind in
    omega (arith, h.0, h.1, narrow kind run.kind, behind-low run kind)

pub maximal-weaker : (runs : List Run) (low high low' high' : Bound) → AtMost low' low
    → AtMost high high' → AreMaximalIn low high runs → AreMaximalIn low' high' runs
maximal-weaker [] low high low' high' l r h = λ kind. omega (arith, l kind, r kind, h kind)
maximal-weaker (run ∷ runs) low high low' high' l r h = (
  omega (arith, l run.kind, h.0),
  h.1,
  maximal-weaker runs (behind run) high (behind run) high' (λ kind. omega arith) r h.2,
)

pub maximal-from : (runs : List Run) (low high low' : Bound) → AtMost low' low
    → AreMaximalIn low high runs → AreMaximalIn low' high runs
maximal-from runs low high low' l h = maximal-weaker runs low high low' high l (λ kind. omega arith) h

pub maximal-to : (runs : List Run) (low high high' : Bound) → AtMost high high'
    → AreMaximalIn low high runs → AreMaximalIn low high' runs
maximal-to runs low high high' r h = maximal-weaker runs low high low high' (λ kind. omega arith) r h

pub maximal-append : (xs ys : List Run) (low mid high : Bound) → AreMaximalIn low mid xs
    → AreMaximalIn mid high ys → AreMaximalIn low high (xs ++ ys)
maximal-append [] ys low mid high h k = maximal-from ys mid high low h k
maximal-append (x ∷ xs) ys low mid high h k =
    (h.0, h.1, maximal-append xs ys (behind x) mid high h.2 k)

-- the bound where the runs after others may begin
abbrev pub behind_all : (low : Bound) → List Run → Bound
behind_all low [] = low
behind_all low (run ∷ runs) = behind_all (behind run) runs

pub narrow-all : (xs : List Run) (low : Bound) → IsNarrow low → IsNarrow (behind_all low xs)
narrow-all [] low h = h
narrow-all (x ∷ xs) low h = narrow-all xs (behind x) (narrow-behind x)

pub maximal-left : (xs ys : List Run) (low high : Bound) → AreMaximalIn low high (xs ++ ys)
    → AreMaximalIn low (behind_all low xs) xs
maximal-left [] ys low high h = λ kind. omega arith
maximal-left (x ∷ xs) ys low high h = (h.0, h.1, maximal-left xs ys (behind x) high h.2)

pub maximal-right : (xs ys : List Run) (low high : Bound) → AreMaximalIn low high (xs ++ ys)
    → AreMaximalIn (behind_all low xs) high ys
maximal-right [] ys low high h = h
maximal-right (x ∷ xs) ys low high h = maximal-right xs ys (behind x) high h.2

-- ---- Runs have no address in common

pub apart-in : (runs : List Run) (low high : Bound) (a b : ℕ) → ((kind : Kind) → a ≤ low kind) → a ≤ b
    → ((kind : Kind) → high kind ≤ b + 1) → AreMaximalIn low high runs → AreApart a b runs
apart-in [] low high a b l le r h = le
apart-in (run ∷ runs) low high a b l le r h =
    let ends = maximal-le runs (behind run) high (narrow-behind run) h.2 run.kind in (
      omega (arith, l run.kind, h.0),
      h.1,
      apart-in runs (behind run) high (end_of run) b (behind-low run)
          (omega (arith, behind-own run, r run.kind)) r h.2,
    )

pub apart-maximal : (runs : List Run) (a b : ℕ) → a ≤ b → AreMaximal a (b + 1) runs
    → AreApart a b runs
apart-maximal runs a b le h =
    apart-in runs (any_from a) (any_from (b + 1)) a b (λ kind. omega arith) le (λ kind. omega arith) h

pub apart-loose : (runs : List Run) (low a b : ℕ) → a ≤ low → AreMaximal low b runs
    → AreApart a b runs
apart-loose runs low a b le h =
    let within = maximal-le runs (any_from low) (any_from b) (narrow-any low) h Data in
    apart-in runs (any_from low) (any_from b) a b (λ kind. le) (omega arith) (λ kind. omega arith) h

pub maximal-sorted : (runs : List Run) (a b : ℕ) → AreMaximal a b runs → IsSorted runs
maximal-sorted runs a b h = apart-sorted runs a b (apart-loose runs a a b (omega arith) h)

-- ---- A run that is written

-- the runs before a run, at the bound that it begins at
pub maximal-before : (xs ys : List Run) (run : Run) (low high : Bound) → IsNarrow low
    → AreMaximalIn low high (xs ++ run ∷ ys) → AreMaximalIn low (begins run.kind run.start) xs
maximal-before xs ys run low high narrow h =
    let right = maximal-right xs (run ∷ ys) low high h in
    maximal-weaker xs low (behind_all low xs) low (begins run.kind run.start) (λ kind. omega arith)
    (begins-reach (behind_all low xs) run.kind run.start (narrow-all xs low narrow) right.0)
    (maximal-left xs (run ∷ ys) low high h)

-- a run of one kind, between the runs before it and the runs after it
pub written-maximal : (xs ys : List Run) (run : Run) (low high : Bound) → 0 < run.count
    → AreMaximalIn low (begins run.kind run.start) xs → AreMaximalIn (behind run) high ys
    → AreMaximalIn low high (xs ++ run ∷ ys)
written-maximal xs ys run low high some front back =
    maximal-append xs (run ∷ ys) low (begins run.kind run.start) high front
    (omega (arith, begins-at run.kind run.start), some, back)

-- the part in front of a range that a run of another kind keeps
pub front-kept : (xs ys : List Run) (run front : Run) (kind : Kind) (low high : Bound) (lba : ℕ)
    → IsNarrow low → AreMaximalIn low high (xs ++ run ∷ ys) → front.start ≡ run.start
    → front.kind ≡ run.kind → 0 < front.count → end_of front ≤ lba
    → same_kind kind front.kind ≡ false → AreMaximalIn low (begins kind lba) (xs ++ front ∷ [])
front-kept xs ys run front kind low high lba narrow h start same some ends other =
    let before = maximal-before xs ys run low high narrow h in
    let at = begins-at run.kind run.start in
    maximal-append xs (front ∷ []) low (begins run.kind run.start) (begins kind lba) before (
      rw same (omega (arith, at, start)),
      some,
      begins-reach (behind front) kind lba (narrow-behind front) (rw other (omega arith)),
    )

-- ---- The rest of a run

-- A part of a run, of its kind, before a range or after it.
pub record IsPart (run : Run) (from to : ℕ) (part : Run) : Type 0 where
  pub kind : part.kind ≡ run.kind
  pub not_empty : 0 < part.count
  pub starts : run.start ≤ part.start
  pub from_there : from ≤ part.start
  pub ends : end_of part ≤ end_of run
  pub to_there : end_of part ≤ to

part-reach : (low : Bound) (run part : Run) (from to : ℕ) → IsPart run from to part
    → low run.kind ≤ run.start → low part.kind ≤ part.start
part-reach low run part from to p le = rw p.kind (omega (arith, p.starts))

part-behind : (run part : Run) (from to : ℕ) → IsPart run from to part
    → AtMost (behind part) (behind run)
part-behind run part from to p = behind-at-most part run p.kind p.ends

without : (low high : Bound) (run : Run) (tail : List Run) → IsNarrow low
    → low run.kind ≤ run.start → 0 < run.count → AreMaximalIn (behind run) high tail
    → AreMaximalIn low high tail
without low high run tail narrow le some h =
    maximal-from tail (behind run) high low
    (λ kind. omega (arith, narrow kind run.kind, behind-low run kind)) h

with_back : (low high : Bound) (run : Run) (back : Option Run) (tail : List Run) (at : ℕ)
    → IsNarrow low → low run.kind ≤ run.start → 0 < run.count
    → IfSome back (IsPart run at (end_of run)) → AreMaximalIn (behind run) high tail
    → AreMaximalIn low high (option_to_list back ++ tail)
with_back low high run None tail at narrow le some p h = without low high run tail narrow le some h
with_back low high run (Some back) tail at narrow le some p h = (
  part-reach low run back at (end_of run) p le,
  p.not_empty,
  maximal-from tail (behind run) high (behind back) (part-behind run back at (end_of run) p) h,
)

-- after a front there is a gap before the back
behind_front : (end : Bound) (run front : Run) (back : Option Run) (tail : List Run)
    (from to : ℕ) → from < to → 0 < run.count → IsPart run 0 from front
    → IfSome back (IsPart run to (end_of run)) → AreMaximalIn (behind run) end tail
    → AreMaximalIn (behind front) end (option_to_list back ++ tail)
behind_front end run front None tail from to lt some p q h =
    maximal-from tail (behind run) end (behind front) (part-behind run front 0 from p) h
behind_front end run front (Some back) tail from to lt some p q h = (
  omega (arith, behind-high front back.kind, p.to_there, q.from_there),
  q.not_empty,
  maximal-from tail (behind run) end (behind back) (part-behind run back to (end_of run) q) h,
)

parts : (low high : Bound) (run : Run) (front back : Option Run) (tail : List Run) (from to : ℕ)
    → from < to → IsNarrow low → low run.kind ≤ run.start → 0 < run.count
    → IfSome front (IsPart run 0 from) → IfSome back (IsPart run to (end_of run))
    → AreMaximalIn (behind run) high tail
    → AreMaximalIn low high ((option_to_list front ++ option_to_list back) ++ tail)
parts low high run None back tail from to lt narrow le some p q h =
    with_back low high run back tail to narrow le some q h
parts low high run (Some front) back tail from to lt narrow le some p q h = (
  part-reach low run front 0 from p le,
  p.not_empty,
  behind_front high run front back tail from to lt some p q h,
)

pub cut-maximal : (xs tail : List Run) (run : Run) (front back : Option Run) (from to : ℕ)
    (low high : Bound) → from < to → IsNarrow low → AreMaximalIn low high (xs ++ run ∷ tail)
    → IfSome front (IsPart run 0 from) → IfSome back (IsPart run to (end_of run))
    → AreMaximalIn low high (xs ++ ((option_to_list front ++ option_to_list back) ++ tail))
cut-maximal xs tail run front back from to low high lt narrow h p q =
    let right = maximal-right xs (run ∷ tail) low high h in
    maximal-append xs ((option_to_list front ++ option_to_list back) ++ tail) low
    (behind_all low xs) high (maximal-left xs (run ∷ tail) low high h)
    (parts (behind_all low xs) high run front back tail from to lt (narrow-all xs low narrow)
    right.0 right.1 p q right.2)
