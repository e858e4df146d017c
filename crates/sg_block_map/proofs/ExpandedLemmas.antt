-- The single addresses of runs, after splits, joins and links.
use Rattle.std.proofs.Common.{◌≡◌, ◌≢◌, ℕ, ◌+◌, ◌-◌, ◌≤◌, zero, suc, List, [], ◌∷◌, ◌++◌, length}
use Rattle.std.proofs.Common.{get_or, set, drop, arith, refl, sym, ap, ap₂, ◌∙◌, append_assoc}
use Rattle.std.proofs.Common.{length-append}
use Rattle.std.proofs.lemmas.List.{get_or-set_other}
use Rattle.std.specs.Prelude.{slice_index}
use Rattle.sg_pool.specs.Chains.{chain, slot_after, IsChain}
use Rattle.sg_table.specs.Records.{single}
use Rattle.sg_table.specs.Records.{slots_of}
use Rattle.sg_table.specs.Occurrences.{occurrences}
use Rattle.sg_table.specs.declared.run.Kind.{Kind}
use Rattle.sg_table.specs.declared.run.Run.{Run}
use Rattle.sg_block_map.specs.Runs.{singles, singles_of, expanded, AreChained}
use Rattle.sg_pool.proofs.LinkLemmas.{chain-append, slot_after-set, slot_after-in}
use Rattle.sg_table.proofs.OccurrenceLemmas.{not_equal, occurrences-append}

pub slots-singles : (next : List ℕ) (start first n : ℕ) (kind : Kind)
    → slots_of (singles next start first n kind) ≡ chain next first n
unfolding singles chain
slots-singles next start first zero kind = refl
slots-singles next start first (suc n) kind = ap (λ xs. first ∷ xs)
    (slots-singles next (start + 1) (slice_index next first) n kind)

pub length-singles : (next : List ℕ) (start first n : ℕ) (kind : Kind)
    → length (singles next start first n kind) ≡ n
unfolding singles
length-singles next start first zero kind = refl
length-singles next start first (suc n) kind = ap suc
    (length-singles next (start + 1) (slice_index next first) n kind)

pub singles-none : (next : List ℕ) (start first : ℕ) (kind : Kind)
    → singles next start first 0 kind ≡ []
unfolding singles
singles-none next start first kind = refl

pub singles-one : (next : List ℕ) (start first : ℕ) (kind : Kind)
    → singles next start first 1 kind ≡ single start first kind ∷ []
unfolding singles
singles-one next start first kind = refl

pub singles-append : (next : List ℕ) (start first n m : ℕ) (kind : Kind)
    → singles next start first (n + m) kind ≡ singles next start first n kind
    ++ singles next (start + n) (slot_after next first n) m kind
unfolding singles slot_after
singles-append next start first zero m kind = let e : start + 0 ≡ start = omega arith in
    let f : 0 + m ≡ m = omega arith in rw (e, f) refl
singles-append next start first (suc n) m kind =
    let e : suc n + m ≡ suc (n + m) = omega arith in
    let f : start + suc n ≡ start + 1 + n = omega arith in
    rw (e, f) (ap (λ xs. single start first kind ∷ xs)
    (singles-append next (start + 1) (slice_index next first) n m kind))

-- a link of a slot that the chain does not have
pub singles-set : (next : List ℕ) (t to start first n : ℕ) (kind : Kind)
    → occurrences t (chain next first n) ≡ 0
    → singles (set next t to) start first n kind ≡ singles next start first n kind
unfolding singles chain occurrences
singles-set next t to start first zero kind none = refl
singles-set next t to start first (suc n) kind none =
    let other : first ≢ t = not_equal t first (omega arith) in
    let same : get_or (set next t to) first 0 ≡ get_or next first 0 =
    get_or-set_other next t first to 0 other in
    ap (λ xs. single start first kind ∷ xs)
    (ap (λ x. singles (set next t to) (start + 1) x n kind) same
    ∙ singles-set next t to (start + 1) (slice_index next first) n kind (omega arith))

-- the slots decide which single addresses there are
pub singles-by : (next other : List ℕ) (start first to n : ℕ) (kind : Kind)
    → chain next first n ≡ chain other to n
    → singles next start first n kind ≡ singles other start to n kind
unfolding singles chain
singles-by next other start first to zero kind e = refl
singles-by next other start first to (suc n) kind e =
    let head : first ≡ to = ap (λ xs. get_or xs 0 0) e in
    let rest = ap (λ xs. drop 1 xs) e in
    ap₂ (λ s xs. single start s kind ∷ xs) head (singles-by next other (start + 1)
    (slice_index next first) (slice_index other to) n kind rest)

pub expanded-none : (next : List ℕ) → expanded next [] ≡ []
unfolding expanded
expanded-none next = refl

pub expanded-more : (next : List ℕ) (run : Run) (runs : List Run)
    → expanded next (run ∷ runs) ≡ singles_of next run ++ expanded next runs
unfolding expanded
expanded-more next run runs = refl

pub expanded-append : (next : List ℕ) (xs ys : List Run)
    → expanded next (xs ++ ys) ≡ expanded next xs ++ expanded next ys
unfolding expanded
expanded-append next [] ys = refl
expanded-append next (x ∷ xs) ys = ap (λ zs. singles_of next x ++ zs) (expanded-append next xs ys)
    ∙ sym (append_assoc (singles_of next x) (expanded next xs) (expanded next ys))

pub slots-append : (xs ys : List Run) → slots_of (xs ++ ys) ≡ slots_of xs ++ slots_of ys
slots-append [] ys = refl
slots-append (x ∷ xs) ys = ap (λ zs. x.first ∷ zs) (slots-append xs ys)

-- the occurrences of a slot in a run and in the runs after it
pub slots-more : (next : List ℕ) (t : ℕ) (run : Run) (runs : List Run)
    → occurrences t (slots_of (expanded next (run ∷ runs))) ≡
    occurrences t (chain next run.first run.count) + occurrences t (slots_of (expanded next runs))
slots-more next t run runs =
    ap (λ zs. occurrences t (slots_of zs)) (expanded-more next run runs)
    ∙ ap (occurrences t) (slots-append (singles_of next run) (expanded next runs))
    ∙ occurrences-append t (slots_of (singles_of next run)) (slots_of (expanded next runs))
    ∙ ap (λ zs. occurrences t zs + occurrences t (slots_of (expanded next runs)))
    (slots-singles next run.start run.first run.count run.kind)

pub slots-both : (next : List ℕ) (t : ℕ) (xs ys : List Run)
    → occurrences t (slots_of (expanded next (xs ++ ys))) ≡
    occurrences t (slots_of (expanded next xs)) + occurrences t (slots_of (expanded next ys))
slots-both next t xs ys =
    ap (λ zs. occurrences t (slots_of zs)) (expanded-append next xs ys)
    ∙ ap (occurrences t) (slots-append (expanded next xs) (expanded next ys))
    ∙ occurrences-append t (slots_of (expanded next xs)) (slots_of (expanded next ys))

pub expanded-set : (next : List ℕ) (t to : ℕ) (runs : List Run)
    → occurrences t (slots_of (expanded next runs)) ≡ 0
    → expanded (set next t to) runs ≡ expanded next runs
expanded-set next t to [] none = expanded-none (set next t to) ∙ sym (expanded-none next)
expanded-set next t to (run ∷ runs) none =
    let both = slots-more next t run runs in
    expanded-more (set next t to) run runs
    ∙ ap₂ (λ xs ys. xs ++ ys) (singles-set next t to run.start run.first run.count run.kind (omega arith))
    (expanded-set next t to runs (omega arith))
    ∙ sym (expanded-more next run runs)

pub is_chain-set : (next : List ℕ) (t to first last count : ℕ)
    → occurrences t (chain next first count) ≡ 0 → IsChain next first last count
    → IsChain (set next t to) first last count
is_chain-set next t to first last count none is =
    let some = is.not_empty in
    let e : count - 1 + 1 ≡ count = omega arith in
    let parts = rw e at (chain-append next first (count - 1) 1) in
    let both = ap (occurrences t) parts ∙ occurrences-append t (chain next first (count - 1))
    (chain next (slot_after next first (count - 1)) 1) in
    record {
      not_empty = is.not_empty;
      ends = is.ends ∙ sym
          (slot_after-set next t to first (count - 1) (omega arith));
    }

pub chained-set : (next : List ℕ) (t to : ℕ) (runs : List Run)
    → occurrences t (slots_of (expanded next runs)) ≡ 0 → AreChained next runs
    → AreChained (set next t to) runs
chained-set next t to [] none h = tt
chained-set next t to (run ∷ runs) none h =
    let both = slots-more next t run runs in (
      is_chain-set next t to run.first run.last run.count (omega arith) h.0,
      chained-set next t to runs (omega arith) h.1,
    )

pub chained-append : (next : List ℕ) (xs ys : List Run) → AreChained next xs → AreChained next ys
    → AreChained next (xs ++ ys)
chained-append next [] ys h k = k
chained-append next (x ∷ xs) ys h k = (h.0, chained-append next xs ys h.1 k)

pub chained-left : (next : List ℕ) (xs ys : List Run) → AreChained next (xs ++ ys)
    → AreChained next xs
chained-left next [] ys h = tt
chained-left next (x ∷ xs) ys h = (h.0, chained-left next xs ys h.1)

pub chained-right : (next : List ℕ) (xs ys : List Run) → AreChained next (xs ++ ys)
    → AreChained next ys
chained-right next [] ys h = h
chained-right next (x ∷ xs) ys h = chained-right next xs ys h.1

-- there are no more runs than addresses
pub runs-le : (next : List ℕ) (runs : List Run) → AreChained next runs
    → length runs ≤ length (expanded next runs)
runs-le next [] h = omega arith
runs-le next (run ∷ runs) h =
    let some = h.0.not_empty in
    let rest = runs-le next runs h.1 in
    let len = ap length (expanded-more next run runs)
    ∙ length-append (singles_of next run) (expanded next runs) in
    let one = length-singles next run.start run.first run.count run.kind in
    omega arith

-- the last slot of a chain is in it
pub last-in : (next : List ℕ) (first last count : ℕ) → IsChain next first last count
    → 1 ≤ occurrences last (chain next first count)
last-in next first last count is = let some = is.not_empty in
    rw is.ends (slot_after-in next first (count - 1) count (omega arith))
