-- A part of the table that is replaced by other records.
use Rattle.std.proofs.Common.{◌≡◌, ℕ, ◌+◌, ◌-◌, ◌<◌, ◌≤◌, suc, List, [], ◌∷◌, ◌++◌, length, get_or}
use Rattle.std.proofs.Common.{take, drop, arith, sym, ap, ap₂, ◌∙◌, Option, Some, None, add-one}
use Rattle.std.proofs.Common.{append_assoc, length-append, length-drop}
use Rattle.std.proofs.Math.Seq.{drop-cons, take-append_seam, take-append-add, drop-append_seam}
use Rattle.std.proofs.Math.Seq.{length-take-le, get_or-append_seam}
use Rattle.std.proofs.Common.{Result, Ok, Err, true, true≢false}
use Rattle.std.specs.Result.{is_ok, OnOk}
use Rattle.std.proofs.lemmas.List.Elements.{All-append, All-drop, All-take}
use Rattle.std.specs.List.{All, splice}
use Rattle.std.specs.Prelude.{insert}
use Rattle.sg_table.specs.Records.{IsNext}
use Rattle.sg_table.specs.declared.run.Run.{Run}

-- a fact that holds if a call succeeds
pub on_success : {T E P : Type 0} (r : Result T E) → is_ok r ≡ true → OnOk r P → P
on_success (Ok x) e p = p
on_success (Err x) e p = absurd (true≢false (sym e))

pub written_back : (n : ℕ) (xs ys : List Run) → n ≡ length xs → take n (xs ++ ys) ≡ xs
written_back n xs ys e = ap (λ k. take k (xs ++ ys)) e ∙ take-append_seam xs ys

pub front_of : (rs : List Run) (n : ℕ) → n ≤ length rs → length (take n rs) ≡ n
front_of rs n h = length-take-le n rs h

-- the part goes to the end, and is cut off
pub cut-left : (rs : List Run) (from to left : ℕ) → from ≤ to → to ≤ length rs → left ≡
    length rs - (to - from)
    → take left (take from rs ++ (drop (from + (to - from)) rs ++ take (to - from) (drop from rs)))
    ≡ take from rs ++ drop to rs
cut-left rs from to left le within e =
    let p : List Run = take from rs in let b : List Run = drop to rs in
    let same : from + (to - from) ≡ to = omega arith in
    let lp : length p ≡ from = front_of rs from (omega arith) in
    let lb : length b ≡ length rs - to = length-drop to rs in
    let n : left ≡ length p + length b = omega arith in
    rw (same, n) (take-append-add p (b ++ take (to - from) (drop from rs)) (length b)
    ∙ ap (λ x. p ++ x) (take-append_seam b (take (to - from) (drop from rs))))

-- the appended records go to their index
pub turned-right : (p b runs : List Run) (from n left : ℕ) → from ≡ length p → n ≡
    length p + length b → left ≡ length b
    → take from ((p ++ b) ++ runs) ++
    (drop n ((p ++ b) ++ runs) ++ take left (drop from ((p ++ b) ++ runs))) ≡ p ++ (runs ++ b)
turned-right p b runs from n left e f g =
    let front : take from ((p ++ b) ++ runs) ≡ p = rw append_assoc (written_back from p (b ++ runs) e) in
    let all : n ≡ length (p ++ b) = f ∙ sym (length-append p b) in
    let mid : drop n ((p ++ b) ++ runs) ≡ runs = rw all (drop-append_seam (p ++ b) runs) in
    let rest : drop from ((p ++ b) ++ runs) ≡ b ++ runs =
    rw (append_assoc, e) (drop-append_seam p (b ++ runs)) in
    rw (front, mid, rest) (ap (λ x. p ++ (runs ++ x)) (written_back left b runs g))

-- a fact of each record, and of the records that replace some
pub all-splice : (P : Run → Type 0) (rs runs : List Run) (from to : ℕ) → All P rs → All P runs
    → All P (splice rs from to runs)
all-splice P rs runs from to each others =
    All-append P (take from rs) (runs ++ drop to rs) (All-take P from rs each)
    (All-append P runs (drop to rs) others (All-drop P to rs each))

-- a new record is drafted
pub insert-splice : (rs done : List Run) (from i : ℕ) (r : Run) → from ≤ length rs
    → insert (splice rs from i done) (from + length done) r ≡ splice rs from i (done ++ r ∷ [])
insert-splice rs done from i r h =
    let p : List Run = take from rs in let t : List Run = drop i rs in
    let n : from + length done ≡ length (p ++ done) =
    omega (arith, length-append p done, front_of rs from h) in
    let whole : p ++ (done ++ t) ≡ (p ++ done) ++ t = sym (append_assoc p done t) in
    rw (whole, n) (ap₂ (λ x y. x ++ r ∷ y) (take-append_seam (p ++ done) t)
    (drop-append_seam (p ++ done) t) ∙ append_assoc p done (r ∷ t)
    ∙ ap (λ x. p ++ x) (sym (append_assoc done (r ∷ []) t)))

-- a record of the table is drafted
pub same-splice : (rs done : List Run) (from i : ℕ) (r : Run) → i < length rs → r ≡ get_or rs i r
    → splice rs from (i + 1) (done ++ r ∷ []) ≡ splice rs from i done
same-splice rs done from i r h e =
    let next : drop i rs ≡ r ∷ drop (i + 1) rs =
    rw add-one (drop-cons rs i r h ∙ ap (λ x. x ∷ drop (suc i) rs) (sym e)) in
    ap (λ x. take from rs ++ x) (append_assoc done (r ∷ []) (drop (i + 1) rs)
    ∙ ap (λ x. done ++ x) (sym next))

pub next-splice : (rs done : List Run) (from i : ℕ) (o : Option Run) → from ≤ length rs
    → i ≤ length rs → IsNext rs i o → IsNext (splice rs from i done) (from + length done) o
next-splice rs done from i None h k p =
    omega (
      arith,
      length-append (take from rs) (done ++ drop i rs),
      length-append done (drop i rs),
      front_of rs from h,
      length-drop i rs,
    )
next-splice rs done from i (Some r) h k p =
    let q : List Run = take from rs in let t : List Run = drop i rs in
    let whole : q ++ (done ++ t) ≡ (q ++ done) ++ t = sym (append_assoc q done t) in
    let n : from + length done ≡ length (q ++ done) =
    omega (arith, length-append q done, front_of rs from h) in
    let next : t ≡ get_or rs i r ∷ drop (suc i) rs = drop-cons rs i r p.0 in (
      omega (
        arith,
        p.0,
        length-append q (done ++ t),
        length-append done t,
        front_of rs from h,
        length-drop i rs,
      ),
      rw (whole, n, next) (get_or-append_seam (q ++ done) (get_or rs i r) (drop (suc i) rs) r ∙ p.1),
    )
