-- Places in leaves, and records that are replaced between two of them.
use Rattle.std.proofs.Common.{◌≡◌, ℕ, suc, ◌+◌, ◌-◌, ◌<◌, ◌≤◌, List, ◌∷◌, ◌++◌, length, get_or, set}
use Rattle.std.proofs.Common.{take, drop, sym, ap, ap₂, ◌∙◌, arith, add-one, append_assoc}
use Rattle.std.proofs.lemmas.List.{drop-append-le, drop-drop, drop_at, get_or_append_left, get_or-append-add}
use Rattle.std.proofs.lemmas.List.{set_split, take-append-le}
use Rattle.std.proofs.Math.Seq.{take-append-add}
use Rattle.std.specs.List.{splice}
use Rattle.sg_table.specs.Leaves.{IsPlace, IsSpan, count_before, joined, leaf_at, replaced}
use Rattle.sg_table.specs.declared.leaves.Place.{Place}
use Rattle.sg_table.specs.declared.leaves.Span.{Span}
use Rattle.sg_table.specs.declared.run.Run.{Run}
use Rattle.sg_table.proofs.LeavesLemmas.{joined-append, joined-split, count_before-more, placed}

-- the records before a place
pub take-place : (ls : List (List Run)) (index : ℕ) (p : Place) → IsPlace ls index p
    → take index (joined ls) ≡ joined (take p.leaf ls) ++ take p.offset (leaf_at ls p.leaf)
take-place ls index p is =
    let before : List Run = joined (take p.leaf ls) in
    let leaf : List Run = leaf_at ls p.leaf in
    let behind : List Run = joined (drop (suc p.leaf) ls) in
    ap (λ n. take n (joined ls)) (sym is.sum) ∙ ap (take (length before + p.offset)) (joined-split ls
    p.leaf is.leaf)
    ∙ take-append-add before (leaf ++ behind) p.offset
    ∙ ap (λ x. before ++ x) (take-append-le p.offset leaf behind is.offset)

-- the records after a place
pub drop-place : (ls : List (List Run)) (index : ℕ) (p : Place) → IsPlace ls index p
    → drop index (joined ls) ≡ drop p.offset (leaf_at ls p.leaf) ++ joined (drop (p.leaf + 1) ls)
drop-place ls index p is =
    let before : List Run = joined (take p.leaf ls) in
    let leaf : List Run = leaf_at ls p.leaf in
    let behind : List Run = joined (drop (suc p.leaf) ls) in
    ap (λ n. drop n (joined ls)) (sym is.sum) ∙ ap (drop (length before + p.offset)) (joined-split ls
    p.leaf is.leaf)
    ∙ sym (drop-drop p.offset (length before) (before ++ (leaf ++ behind)))
    ∙ ap (drop p.offset) (drop_at before (leaf ++ behind) (length before) (omega arith))
    ∙ drop-append-le p.offset leaf behind is.offset
    ∙ ap (λ n. drop p.offset leaf ++ joined (drop n ls)) (sym (add-one p.leaf))

pub splice-places : (ls : List (List Run)) (from to : ℕ) (p q : Place) (runs : List Run)
    → IsPlace ls from p → IsPlace ls to q → splice (joined ls) from to runs ≡ replaced ls p q runs
splice-places ls from to p q runs f t =
    ap₂ (λ x y. x ++ (runs ++ y)) (take-place ls from p f) (drop-place ls to q t)
    ∙ append_assoc (joined (take p.leaf ls)) (take p.offset (leaf_at ls p.leaf))
    (runs ++ (drop q.offset (leaf_at ls q.leaf) ++ joined (drop (q.leaf + 1) ls)))

-- records of one leaf are replaced
pub edited-joined : (ls : List (List Run)) (p q : Place) (runs : List Run) → p.leaf < length ls
    → p.leaf ≡ q.leaf
    → joined (set ls p.leaf (splice (leaf_at ls p.leaf) p.offset q.offset runs)) ≡ replaced ls p q runs
edited-joined ls p q runs lt same =
    let front : List Run = take p.offset (leaf_at ls p.leaf) in
    let end : List Run = drop q.offset (leaf_at ls p.leaf) in
    let behind : List Run = joined (drop (suc p.leaf) ls) in
    let order : (front ++ (runs ++ end)) ++ behind ≡ front ++ (runs ++ (end ++ behind)) = simp append_assoc in
    let next : suc p.leaf ≡ q.leaf + 1 = omega arith in
    ap joined (set_split ls p.leaf (front ++ (runs ++ end)) lt)
    ∙ joined-append (take p.leaf ls) ((front ++ (runs ++ end)) ∷ drop (suc p.leaf) ls)
    ∙ ap (λ x. joined (take p.leaf ls) ++ x) order
    ∙ ap₂ (λ i j. joined (take p.leaf ls)
    ++ (front ++ (runs ++ (drop q.offset (leaf_at ls i) ++ joined (drop j ls))))) same next

-- the record at a place
pub record-place : (ls : List (List Run)) (index : ℕ) (p : Place) (d : Run) → IsPlace ls index p
    → p.offset < length (leaf_at ls p.leaf) → get_or (joined ls) index d ≡ get_or (leaf_at ls p.leaf)
    p.offset d
record-place ls index p d is lt =
    let before : List Run = joined (take p.leaf ls) in
    let leaf : List Run = leaf_at ls p.leaf in
    let behind : List Run = joined (drop (suc p.leaf) ls) in
    ap (λ n. get_or (joined ls) n d) (sym is.sum)
    ∙ ap (λ x. get_or x (length before + p.offset) d) (joined-split ls p.leaf is.leaf)
    ∙ get_or-append-add before (leaf ++ behind) p.offset d
    ∙ get_or_append_left leaf behind d p.offset lt

pub replaced-located : (ls later : List (List Run)) (from to : ℕ) (p q : Place) (runs : List Run)
    → later ≡ ls → IsPlace ls from p → IsPlace later to q
    → replaced later p q runs ≡ splice (joined ls) from to runs
replaced-located ls later from to p q runs same f t =
    let first : IsPlace later from p = rw same f in
    sym (splice-places later from to p q runs first t) ∙ ap (λ l. splice (joined l) from to runs) same

-- the place of an index of a leaf
pub place-span : (ls : List (List Run)) (span : Span) (index : ℕ) → IsSpan ls span
    → span.start ≤ index → index ≤ span.end
    → IsPlace ls index (record { leaf = span.leaf; offset = index - span.start })
place-span ls span index is le end =
    placed ls index span.leaf span.start is.within is.start le (omega (arith, is.end))

-- the records of a leaf fill its span
pub length-span : (ls : List (List Run)) (span : Span) → IsSpan ls span
    → span.end ≡ span.start + length (leaf_at ls span.leaf)
length-span ls span is =
    is.end ∙ ap (count_before ls) (add-one span.leaf) ∙ count_before-more ls span.leaf is.within
    ∙ ap (λ n. n + length (leaf_at ls span.leaf)) (sym is.start)
