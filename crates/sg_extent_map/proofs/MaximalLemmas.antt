-- Extents of which none goes on where the one before it ends.
use Rattle.std.proofs.Common.{◌≡◌, ℕ, ◌+◌, ◌-◌, ◌<◌, zero, suc, List, [], ◌∷◌, ◌++◌, false}
use Rattle.std.proofs.Common.{arith, refl, sym, ap, ap₂, ◌∙◌, append_assoc, ◌⊎◌, inl, inr}
use Rattle.std.proofs.lemmas.List.Elements.{All-head, All-tail}
use Rattle.std.specs.List.{All}
use Rattle.std.specs.Prelude.{◌&&◌, ◌==◌}
use Rattle.sg_table.specs.Records.{same_kind, single}
use Rattle.sg_table.specs.declared.run.Kind.{Kind}
use Rattle.sg_table.specs.declared.run.Run.{Run}
use Rattle.sg_extent_map.specs.Extents.{singles_from, singles_of, singles, continues}
use Rattle.sg_pool.specs.Rising.{end_of, AreBetween}
use Rattle.sg_extent_map.specs.Extents.{AreMaximal}
use Rattle.sg_extent_map.specs.Extents.{IsNotContinued, IsExtent}
use Rattle.sg_extent_map.proofs.SinglesLemmas.{from-one, from-more, singles-more, singles-none}
use Rattle.sg_extent_map.proofs.SinglesLemmas.{singles-last}
use Rattle.sg_extent_map.proofs.SinglesLemmas.{from-append}

-- ---- The last extent

pub max-replaced : (xs : List Run) (a : Run) (count last : ℕ) → AreMaximal (xs ++ a ∷ [])
    → AreMaximal (xs ++ record a { count = count; last = last } ∷ [])
max-replaced [] a count last h = (tt, tt)
max-replaced (x ∷ []) a count last h = (h.0, (tt, tt))
max-replaced (x ∷ y ∷ xs) a count last h = (h.0, max-replaced (y ∷ xs) a count last h.1)

pub max-pushed : (xs : List Run) (a b : Run) → AreMaximal (xs ++ a ∷ []) → continues a b ≡ false
    → AreMaximal ((xs ++ a ∷ []) ++ b ∷ [])
max-pushed [] a b h e = (e, (tt, tt))
max-pushed (x ∷ []) a b h e = (h.0, (e, (tt, tt)))
max-pushed (x ∷ y ∷ xs) a b h e = (h.0, max-pushed (y ∷ xs) a b h.1 e)

pub max-front : (xs : List Run) (a : Run) → AreMaximal (xs ++ a ∷ []) → AreMaximal xs
max-front [] a h = tt
max-front (x ∷ []) a h = (tt, tt)
max-front (x ∷ y ∷ xs) a h = (h.0, max-front (y ∷ xs) a h.1)

-- ---- Two parts

-- The last extent of one list is not continued by another list.
abbrev pub IsSeam : List Run → List Run → Type 0
IsSeam [] ys = Unit
IsSeam (x ∷ []) ys = IsNotContinued x ys
IsSeam (x ∷ y ∷ xs) ys = IsSeam (y ∷ xs) ys

pub max-append : (xs ys : List Run) → AreMaximal xs → AreMaximal ys → IsSeam xs ys → AreMaximal (xs ++ ys)
max-append [] ys h k s = k
max-append (x ∷ []) ys h k s = (s, k)
max-append (x ∷ y ∷ xs) ys h k s = (h.0, max-append (y ∷ xs) ys h.1 k s)

pub max-left : (xs ys : List Run) → AreMaximal (xs ++ ys) → AreMaximal xs
max-left [] ys h = tt
max-left (x ∷ []) ys h = (tt, tt)
max-left (x ∷ y ∷ xs) ys h = (h.0, max-left (y ∷ xs) ys h.1)

pub max-right : (xs ys : List Run) → AreMaximal (xs ++ ys) → AreMaximal ys
max-right [] ys h = h
max-right (x ∷ xs) ys h = max-right xs ys h.1

pub max-seam : (xs ys : List Run) → AreMaximal (xs ++ ys) → IsSeam xs ys
max-seam [] ys h = tt
max-seam (x ∷ []) ys h = h.0
max-seam (x ∷ y ∷ xs) ys h = max-seam (y ∷ xs) ys h.1

-- ---- The seam by the single addresses at both sides of it

-- The last of single addresses, if they end with one.
abbrev pub LastIs : List Run → Run → Type 0
LastIs xs r = (more : List Run) × (xs ≡ more ++ r ∷ [])

abbrev pub FirstIs : List Run → Run → Type 0
FirstIs xs r = (more : List Run) × (xs ≡ r ∷ more)

abbrev last_or : Run → List Run → Run
last_or d [] = d
last_or d (x ∷ xs) = last_or x xs

last-append : (d : Run) (xs ys : List Run) → last_or d (xs ++ ys) ≡ last_or (last_or d xs) ys
last-append d [] ys = refl
last-append d (x ∷ xs) ys = last-append x xs ys

last-from : (d : Run) (start first n : ℕ) (kind : Kind)
    → last_or d (singles_from start first (suc n) kind) ≡ single (start + n) (first + n) kind
unfolding singles_from
last-from d start first zero kind =
    let e : start + 0 ≡ start = omega arith in
    let f : first + 0 ≡ first = omega arith in
    rw (e, f) refl
last-from d start first (suc n) kind =
    let e : start + 1 + n ≡ start + suc n = omega arith in
    let f : first + 1 + n ≡ first + suc n = omega arith in
    last-from (single start first kind) (start + 1) (first + 1) n kind
    ∙ ap₂ (λ s t. single s t kind) e f

-- the last address of an extent
last-of : (d run : Run) → 0 < run.count
    → last_or d (singles_of run)
    ≡ single (run.start + (run.count - 1)) (run.first + (run.count - 1)) run.kind
last-of d run some =
    let e : run.count ≡ suc (run.count - 1) = omega arith in
    ap (λ n. last_or d (singles_from run.start run.first n run.kind)) e
    ∙ last-from d run.start run.first (run.count - 1) run.kind

-- it is continued as the extent is
ends-alike : (run next : Run) → 0 < run.count
    → continues (single (run.start + (run.count - 1)) (run.first + (run.count - 1)) run.kind) next
    ≡ continues run next
ends-alike run next some =
    let e : run.start + (run.count - 1) + 1 ≡ end_of run = omega arith in
    let f : run.first + (run.count - 1) + 1 ≡ run.first + run.count = omega arith in
    ap₂ (λ s t. same_kind next.kind run.kind && (next.start == s && next.first == t)) e f

seam-last : (room : ℕ) (d x : Run) (xs : List Run) (next : Run) (ys : List Run)
    → All (IsExtent room) (x ∷ xs)
    → (IsSeam (x ∷ xs) (next ∷ ys) → continues (last_or d (singles (x ∷ xs))) next ≡ false)
    × (continues (last_or d (singles (x ∷ xs))) next ≡ false → IsSeam (x ∷ xs) (next ∷ ys))
seam-last room d x [] next ys each =
    let one : IsExtent room x = All-head (IsExtent room) x [] each in
    let all = ap (last_or d) (singles-last [] x ∙ ap (λ zs. zs ++ singles_of x) singles-none)
    ∙ last-of d x one.not_empty in
    let same = ap (λ r. continues r next) all ∙ ends-alike x next one.not_empty in
    (λ s. same ∙ s, λ e. sym same ∙ e)
seam-last room d x (y ∷ xs) next ys each =
    let all = ap (last_or d) (singles-more x (y ∷ xs))
    ∙ last-append d (singles_of x) (singles (y ∷ xs)) in
    let rest = seam-last room (last_or d (singles_of x)) y xs next ys
    (All-tail (IsExtent room) x (y ∷ xs) each) in
    let same = ap (λ r. continues r next) all in
    (λ s. same ∙ rest.0 s, λ e. rest.1 (sym same ∙ e))

-- the first address of extents
first-of : (room : ℕ) (y : Run) (ys : List Run) (r : Run) → All (IsExtent room) (y ∷ ys)
    → FirstIs (singles (y ∷ ys)) r → r ≡ single y.start y.first y.kind
first-of room y ys r each is =
    let one : IsExtent room y = All-head (IsExtent room) y ys each in
    let some = one.not_empty in
    let e : y.count ≡ suc (y.count - 1) = omega arith in
    let all = singles-more y ys ∙ ap (λ n. singles_from y.start y.first n y.kind ++ singles ys) e
    ∙ ap (λ zs. zs ++ singles ys) (from-more y.start y.first (y.count - 1) y.kind) in
    ap (last_or r) (ap (λ zs. first_only zs) (sym is.1 ∙ all))
  where
    first_only : List Run → List Run
    first_only [] = []
    first_only (z ∷ zs) = z ∷ []

-- ---- Extents are replaced

seam-none : (xs : List Run) → IsSeam xs []
seam-none [] = tt
seam-none (x ∷ []) = tt
seam-none (x ∷ y ∷ xs) = seam-none (y ∷ xs)

last-there : (d r : Run) (xs : List Run) → LastIs xs r → last_or d xs ≡ r
last-there d r xs is = ap (last_or d) is.1 ∙ last-append d is.0 (r ∷ [])

snoc-some : (more : List Run) (r : Run) → [] ≡ more ++ r ∷ [] → ⊥
snoc-some [] r e = let wrong = e in cc
snoc-some (x ∷ more) r e = let wrong = e in cc

last-some : (r : Run) → LastIs (singles []) r → ⊥
last-some r is = snoc-some is.0 r (sym singles-none ∙ is.1)

first-some : (r : Run) → FirstIs (singles []) r → ⊥
first-some r is = let wrong : [] ≡ r ∷ is.0 = sym singles-none ∙ is.1 in cc

-- the extents after the replaced ones
seam-after : (room : ℕ) (g ds ys : List Run) (r : Run) → All (IsExtent room) g → All (IsExtent room) ds
    → LastIs (singles g) r → LastIs (singles ds) r → IsSeam g ys → IsSeam ds ys
seam-after room g ds [] r eg ed lg ld s = seam-none ds
seam-after room [] ds (y ∷ ys) r eg ed lg ld s = absurd (last-some r lg)
seam-after room (x ∷ g) [] (y ∷ ys) r eg ed lg ld s = absurd (last-some r ld)
seam-after room (x ∷ g) (d ∷ ds) (y ∷ ys) r eg ed lg ld s =
    let old = (seam-last room r x g y ys eg).0 s in
    let same = last-there r r (singles (x ∷ g)) lg ∙ sym (last-there r r (singles (d ∷ ds)) ld) in
    (seam-last room r d ds y ys ed).1 (ap (λ z. continues z y) (sym same) ∙ old)

-- and the ones before
seam-before : (room : ℕ) (xs g ds ys : List Run) (r : Run) → All (IsExtent room) xs
    → All (IsExtent room) g → All (IsExtent room) ds
    → FirstIs (singles g) r → FirstIs (singles ds) r → IsSeam xs (g ++ ys) → IsSeam xs (ds ++ ys)
seam-before room [] g ds ys r ex eg ed fg fd s = tt
seam-before room (x ∷ xs) [] ds ys r ex eg ed fg fd s = absurd (first-some r fg)
seam-before room (x ∷ xs) (a ∷ g) [] ys r ex eg ed fg fd s = absurd (first-some r fd)
seam-before room (x ∷ xs) (a ∷ g) (d ∷ ds) ys r ex eg ed fg fd s =
    let old = (seam-last room r x xs a (g ++ ys) ex).0 s in
    let same : single a.start a.first a.kind ≡ single d.start d.first d.kind =
    sym (first-of room a g r eg fg) ∙ first-of room d ds r ed fd in
    (seam-last room r x xs d (ds ++ ys) ex).1
    (ap (λ z. continues (last_or r (singles (x ∷ xs))) z) (sym same) ∙ old)

-- Two lists of extents begin with one address and one slot, or end so.
abbrev pub BeginAlike : List Run → List Run → Type 0
BeginAlike ds g = (r : Run) × FirstIs (singles ds) r × FirstIs (singles g) r

abbrev pub EndAlike : List Run → List Run → Type 0
EndAlike ds g = (r : Run) × LastIs (singles ds) r × LastIs (singles g) r

pub max-put : (room : ℕ) (xs g ys ds : List Run) → All (IsExtent room) xs → All (IsExtent room) g
    → All (IsExtent room) ds → AreMaximal (xs ++ (g ++ ys)) → AreMaximal ds
    → (xs ≡ []) ⊎ BeginAlike ds g → (ys ≡ []) ⊎ EndAlike ds g → AreMaximal (xs ++ (ds ++ ys))
max-put room xs g ys ds ex eg ed h k left right =
    let old = max-right xs (g ++ ys) h in
    let after : IsSeam ds ys = elim right [
      | inl none ↦ rw none (seam-none ds)
      | inr alike ↦ seam-after room g ds ys alike.0 eg ed alike.2 alike.1 (max-seam g ys old)
    ] in
    let front : IsSeam xs (ds ++ ys) = elim left [
      | inl none ↦ rw none tt
      | inr alike ↦ seam-before room xs g ds ys alike.0 ex eg ed alike.2 alike.1
          (max-seam xs (g ++ ys) h)
    ] in
    max-append xs (ds ++ ys) (max-left xs (g ++ ys) h)
    (max-append ds ys k (max-right g ys old) after) front

-- ---- The first and the last address of gathered extents

pub first-gathered : (room : ℕ) (run : Run) (more : List Run) → All (IsExtent room) (run ∷ more)
    → FirstIs (singles (run ∷ more)) (single run.start run.first run.kind)
first-gathered room run more each =
    let one : IsExtent room run = All-head (IsExtent room) run more each in
    let some = one.not_empty in
    let e : run.count ≡ suc (run.count - 1) = omega arith in (
      singles_from (run.start + 1) (run.first + 1) (run.count - 1) run.kind ++ singles more,
      singles-more run more
          ∙ ap (λ n. singles_from run.start run.first n run.kind ++ singles more) e
          ∙ ap (λ zs. zs ++ singles more) (from-more run.start run.first (run.count - 1) run.kind),
    )

-- the last address of an extent
abbrev pub final : Run → Run
final run = single (run.start + (run.count - 1)) (run.first + (run.count - 1)) run.kind

pub last-gathered : (run : Run) (more : List Run) → 0 < run.count
    → LastIs (singles (more ++ run ∷ [])) (final run)
last-gathered run more some =
    let e : run.count ≡ run.count - 1 + 1 = omega arith in
    let parts : singles_of run
    ≡ singles_from run.start run.first (run.count - 1) run.kind ++ final run ∷ [] =
    ap (λ n. singles_from run.start run.first n run.kind) e
    ∙ from-append run.start run.first (run.count - 1) 1 run.kind
    ∙ ap (λ zs. singles_from run.start run.first (run.count - 1) run.kind ++ zs)
    (from-one (run.start + (run.count - 1)) (run.first + (run.count - 1)) run.kind) in (
      singles more ++ singles_from run.start run.first (run.count - 1) run.kind,
      singles-last more run ∙ ap (λ zs. singles more ++ zs) parts
          ∙ sym (append_assoc (singles more)
          (singles_from run.start run.first (run.count - 1) run.kind) (final run ∷ [])),
    )

-- the last of two parts that has an address
pub last-suffix : (xs ys : List Run) (r : Run) → LastIs (xs ++ ys) r → (ys ≡ []) ⊎ LastIs ys r
last-suffix [] ys r is = inr is
last-suffix (x ∷ xs) ys r ([], e) = inl (nothing xs ys (ap (λ zs. tail_of zs) e))
  where
    tail_of : List Run → List Run
    tail_of [] = []
    tail_of (z ∷ zs) = zs

    nothing : (xs ys : List Run) → xs ++ ys ≡ [] → ys ≡ []
    nothing [] ys e = e
    nothing (x ∷ xs) ys e = let wrong = e in cc
last-suffix (x ∷ xs) ys r (m ∷ more, e) = last-suffix xs ys r (more, ap (λ zs. tail_of zs) e)
  where
    tail_of : List Run → List Run
    tail_of [] = []
    tail_of (z ∷ zs) = zs

pub last-append-to : (xs ys : List Run) (r : Run) → LastIs ys r → LastIs (xs ++ ys) r
last-append-to xs ys r is = (
  xs ++ is.0,
  ap (λ zs. xs ++ zs) is.1 ∙ sym (append_assoc xs is.0 (r ∷ [])),
)

-- an address that lies at the end of addresses that rise
pub last-below : (xs : List Run) (r : Run) (a b : ℕ) → LastIs xs r → AreBetween a b xs → r.start < b
last-below xs r a b is h = at is.0 a (rw is.1 at h)
  where
    at : (more : List Run) (a : ℕ) → AreBetween a b (more ++ r ∷ []) → r.start < b
    at [] a h = omega (arith, h.1)
    at (x ∷ more) a h = at more (x.start + 1) h.1

-- the first address stays at the front
pub first-kept : (S front ahead D more A all : List Run) (r : Run) (lba b : ℕ) → S ≡ front ++ ahead
    → FirstIs S r → r.start < lba → AreBetween lba b ahead → D ≡ front ++ more → all ≡ D ++ A
    → FirstIs all r
first-kept S [] [] D more A all r lba b e is lt h d a =
    let wrong : [] ≡ r ∷ is.0 = sym e ∙ is.1 in cc
first-kept S [] (x ∷ ahead) D more A all r lba b e is lt h d a =
    let same : x ∷ ahead ≡ r ∷ is.0 = sym e ∙ is.1 in
    let start : x.start ≡ r.start = ap (λ zs. (last_or r (one_of zs)).start) same in
    absurd (omega (arith, h.0, start))
  where
    one_of : List Run → List Run
    one_of [] = []
    one_of (z ∷ zs) = z ∷ []
first-kept S (z ∷ front) ahead D more A all r lba b e is lt h d a =
    let same : z ∷ (front ++ ahead) ≡ r ∷ is.0 = sym e ∙ is.1 in
    let head : z ≡ r = ap (λ zs. last_or r (one_of zs)) same in (
      (front ++ more) ++ A,
      a ∙ ap (λ zs. zs ++ A) d ∙ ap (λ y. y ∷ ((front ++ more) ++ A)) head,
    )
  where
    one_of : List Run → List Run
    one_of [] = []
    one_of (z ∷ zs) = z ∷ []
