-- Runs that are joined.
use Rattle.std.proofs.Common.{◌≡◌, ℕ, ◌+◌, ◌-◌, ◌<◌, ◌≤◌, zero, suc, List, [], ◌∷◌, ◌++◌, length}
use Rattle.std.proofs.Common.{length-set, set, arith, refl, sym, ap, ap₂, ◌∙◌, append_assoc, cond}
use Rattle.std.proofs.Common.{false}
use Rattle.std.proofs.lemmas.Bool.Decides.{nat_tests}
use Rattle.std.specs.Prelude.{◌==◌}
use Rattle.sg_pool.specs.Chains.{chain, slot_after, IsChain}
use Rattle.sg_pool.specs.Slots.{Slots}
use Rattle.sg_table.specs.Records.{slots_of}
use Rattle.sg_table.specs.Occurrences.{occurrences}
use Rattle.sg_pool.specs.MappedRecords.{IsConsistent}
use Rattle.sg_table.specs.declared.run.Run.{Run}
use Rattle.sg_store.specs.Disk.{max_capacity}
use Rattle.sg_block_map.specs.Joining.{joined, linked, IsWriting}
use Rattle.sg_block_map.specs.Runs.{singles, singles_of, expanded, AreChained, AreMaximal}
use Rattle.sg_pool.specs.Rising.{end_of}
use Rattle.sg_block_map.specs.Runs.{any_from, begins, AreMaximalIn}
use Rattle.sg_pool.proofs.LinkLemmas.{chain-last, slot_after-add, linked-front, linked-on}
use Rattle.sg_table.proofs.OccurrenceLemmas.{same_slot, occurrences-append, occurrences-one}
use Rattle.sg_table.proofs.OccurrenceLemmas.{once-le, below_count}
use Rattle.sg_block_map.proofs.ExpandedLemmas.{singles-append, singles-set, singles-by}
use Rattle.sg_block_map.proofs.ExpandedLemmas.{singles-none, expanded-append, expanded-more}
use Rattle.sg_block_map.proofs.ExpandedLemmas.{expanded-set, chained-set, is_chain-set, slots-both}
use Rattle.sg_block_map.proofs.ExpandedLemmas.{slots-more, last-in}

not_none : (n : ℕ) → (suc n == 0) ≡ false
not_none n = grind (arith, nat_tests)

-- links and first slot of a run without an address, and of others
no_link : (next : List ℕ) (done : Run) (to : ℕ) → done.count ≡ 0 → linked next done to ≡ next
no_link next done to none = ap (λ n. cond (n == 0) next (set next done.last to)) none

a_link : (next : List ℕ) (done : Run) (to n : ℕ) → done.count ≡ suc n
    → linked next done to ≡ set next done.last to
a_link next done to n some = ap (λ k. cond (k == 0) next (set next done.last to)) some
    ∙ ap (λ b. cond b next (set next done.last to)) (not_none n)

no_first : (done other : Run) → done.count ≡ 0 → (joined done other).first ≡ other.first
no_first done other none = ap (λ n. cond (n == 0) other.first done.first) none

a_first : (done other : Run) (n : ℕ) → done.count ≡ suc n → (joined done other).first ≡ done.first
a_first done other n some = ap (λ k. cond (k == 0) other.first done.first) some
    ∙ ap (λ b. cond b other.first done.first) (not_none n)

-- runs over other slots stay
apart_linked : (next : List ℕ) (done : Run) (to n : ℕ) (runs : List Run) → done.count ≡ n
    → (0 < done.count → occurrences done.last (slots_of (expanded next runs)) ≡ 0)
    → expanded (linked next done to) runs ≡ expanded next runs
apart_linked next done to zero runs e none = ap (λ xs. expanded xs runs) (no_link next done to e)
apart_linked next done to (suc n) runs e none =
    ap (λ xs. expanded xs runs) (a_link next done to n e)
    ∙ expanded-set next done.last to runs (none (omega (arith, e)))

pub expanded-linked : (next : List ℕ) (done : Run) (to : ℕ) (runs : List Run)
    → (0 < done.count → occurrences done.last (slots_of (expanded next runs)) ≡ 0)
    → expanded (linked next done to) runs ≡ expanded next runs
expanded-linked next done to runs none = apart_linked next done to done.count runs refl none

chained_linked : (next : List ℕ) (done : Run) (to n : ℕ) (runs : List Run) → done.count ≡ n
    → (0 < done.count → occurrences done.last (slots_of (expanded next runs)) ≡ 0)
    → AreChained next runs → AreChained (linked next done to) runs
chained_linked next done to zero runs e none h = rw (no_link next done to e) h
chained_linked next done to (suc n) runs e none h =
    rw (a_link next done to n e) (chained-set next done.last to runs (none (omega (arith, e))) h)

pub chained-linked : (next : List ℕ) (done : Run) (to : ℕ) (runs : List Run)
    → (0 < done.count → occurrences done.last (slots_of (expanded next runs)) ≡ 0)
    → AreChained next runs → AreChained (linked next done to) runs
chained-linked next done to runs none h = chained_linked next done to done.count runs refl none h

length_linked : (next : List ℕ) (done : Run) (to n : ℕ) → done.count ≡ n
    → length (linked next done to) ≡ length next
length_linked next done to zero e = ap length (no_link next done to e)
length_linked next done to (suc n) e = ap length (a_link next done to n e)
    ∙ length-set next done.last to

pub length-linked : (next : List ℕ) (done : Run) (to : ℕ)
    → length (linked next done to) ≡ length next
length-linked next done to = length_linked next done to done.count refl

-- the last slot of a run occurs once in its chain
last_once : (next : List ℕ) (done : Run) (n : ℕ) → done.count ≡ suc n
    → IsChain next done.first done.last done.count
    → occurrences done.last (chain next done.first done.count) ≤ 1
    → (done.last ≡ slot_after next done.first n)
    × (occurrences done.last (chain next done.first n) ≡ 0)
last_once next done n e is once =
    let m : done.count - 1 ≡ n = omega (arith, e) in
    let k : done.count ≡ n + 1 = omega (arith, e) in
    let ends : done.last ≡ slot_after next done.first n = is.ends
    ∙ ap (slot_after next done.first) m in
    let parts = ap (λ c. occurrences done.last (chain next done.first c)) k
    ∙ ap (occurrences done.last) (chain-last next done.first n)
    ∙ occurrences-append done.last (chain next done.first n)
    (slot_after next done.first n ∷ []) in
    let one : occurrences done.last (slot_after next done.first n ∷ []) ≡ 1 =
    ap (λ s. occurrences done.last (s ∷ [])) (sym ends) ∙ occurrences-one done.last done.last
    ∙ same_slot done.last in
    (ends, omega arith)

join_singles : (next : List ℕ) (done other : Run) (n : ℕ) → done.count ≡ n
    → end_of done ≡ other.start → done.kind ≡ other.kind
    → (0 < done.count → IsChain next done.first done.last done.count)
    → (0 < done.count → done.last < length next)
    → (0 < done.count → occurrences done.last
    (chain next done.first done.count) + occurrences done.last
    (chain next other.first other.count) ≤ 1)
    → singles_of (linked next done other.first) (joined done other) ≡
    singles_of next done ++ singles_of next other
join_singles next done other zero e ends kind is low once =
    let all : done.count + other.count ≡ other.count = omega (arith, e) in
    let at : done.start ≡ other.start = omega (arith, e, ends) in
    let none : singles_of next done ≡ [] = ap (λ n. singles next done.start done.first n done.kind) e
    ∙ singles-none next done.start done.first done.kind in
    ap₂ (λ ns f. singles ns done.start f (done.count + other.count) done.kind)
    (no_link next done other.first e) (no_first done other e)
    ∙ ap₂ (λ a k. singles next a other.first k done.kind) at all
    ∙ ap (singles next other.start other.first other.count) kind
    ∙ ap (λ xs. xs ++ singles_of next other) (sym none)
join_singles next done other (suc n) e ends kind is low once =
    let pos : 0 < done.count = omega (arith, e) in
    let o = once pos in
    let l = last_once next done n e (is pos) (omega arith) in
    let other_none : occurrences done.last (chain next other.first other.count) ≡ 0
    = let some = last-in next done.first done.last done.count (is pos) in omega arith in
    let now : List ℕ = set next done.last other.first in
    let k : n + 1 ≡ done.count = omega (arith, e) in
    let front : chain now done.first done.count ≡ chain next done.first done.count =
    rw k at (linked-front next done.last other.first done.first n l.0 (low pos) l.1) in
    let on : slot_after now done.first done.count ≡ other.first =
    rw k at (linked-on next done.last other.first done.first n l.0 (low pos) l.1) in
    ap₂ (λ ns f. singles ns done.start f (done.count + other.count) done.kind)
    (a_link next done other.first n e) (a_first done other n e)
    ∙ singles-append now done.start done.first done.count other.count done.kind
    ∙ ap₂ (λ xs ys. xs ++ ys)
    (singles-by now next done.start done.first done.first done.count done.kind front)
    (ap₂ (λ a f. singles now a f other.count done.kind) ends on
    ∙ ap (singles now other.start other.first other.count) kind
    ∙ singles-set next done.last other.first other.start other.first other.count other.kind
    other_none)

join_chain : (next : List ℕ) (done other : Run) (n : ℕ) → done.count ≡ n
    → IsChain next other.first other.last other.count
    → (0 < done.count → IsChain next done.first done.last done.count)
    → (0 < done.count → done.last < length next)
    → (0 < done.count → occurrences done.last
    (chain next done.first done.count) + occurrences done.last
    (chain next other.first other.count) ≤ 1)
    → IsChain (linked next done other.first) (joined done other).first (joined done other).last
    (joined done other).count
join_chain next done other zero e so is low once =
    let all : done.count + other.count ≡ other.count = omega (arith, e) in
    rw (no_link next done other.first e, no_first done other e, all) so
join_chain next done other (suc n) e so is low once =
    let pos : 0 < done.count = omega (arith, e) in
    let o = once pos in
    let l = last_once next done n e (is pos) (omega arith) in
    let other_none : occurrences done.last (chain next other.first other.count) ≡ 0
    = let some = last-in next done.first done.last done.count (is pos) in omega arith in
    let now : List ℕ = set next done.last other.first in
    let some = so.not_empty in
    let k : n + 1 ≡ done.count = omega (arith, e) in
    let m : done.count + (other.count - 1) ≡ done.count + other.count - 1 = omega arith in
    let on : slot_after now done.first done.count ≡ other.first =
    rw k at (linked-on next done.last other.first done.first n l.0 (low pos) l.1) in
    let kept = is_chain-set next done.last other.first other.first other.last other.count other_none
    so in
    rw (a_link next done other.first n e, a_first done other n e) (record {
      not_empty = omega arith;
      ends = kept.ends ∙ ap (λ f. slot_after now f (other.count - 1)) (sym on)
          ∙ sym (slot_after-add now done.first done.count (other.count - 1))
          ∙ ap (slot_after now done.first) m;
    })

-- one run in place of two that follow one another
module _ (before : List Run) (done other : Run) (rest : List Run) (slots : Slots)
    (consistent : IsConsistent (expanded slots.next (before ++ done ∷ (other ∷ rest))) slots.blocks
    slots.free (length slots.next)) (front : 0 < done.count
    → IsChain slots.next done.first done.last done.count) where
  abbrev was : List Run
  was = before ++ done ∷ (other ∷ rest)

  slots_was : (s : ℕ) → occurrences s (slots_of (expanded slots.next was)) ≡
      occurrences s (slots_of (expanded slots.next before)) +
      (occurrences s (chain slots.next done.first done.count) +
      (occurrences s (chain slots.next other.first other.count) + occurrences s
      (slots_of (expanded slots.next rest))))
  slots_was s =
      let a = slots-both slots.next s before (done ∷ (other ∷ rest)) in
      let b = slots-more slots.next s done (other ∷ rest) in
      let d = slots-more slots.next s other rest in
      omega arith

  last_there : 0 < done.count → (done.last < length slots.next)
      × (occurrences done.last (slots_of (expanded slots.next before)) +
      (occurrences done.last (chain slots.next done.first done.count) +
      (occurrences done.last (chain slots.next other.first other.count) + occurrences done.last
      (slots_of (expanded slots.next rest)))) + occurrences done.last slots.free ≤ 1)
  last_there pos =
      let some = last-in slots.next done.first done.last done.count (front pos) in
      let once = once-le (length slots.blocks)
      (slots_of (expanded slots.next was) ++ slots.free) done.last consistent.once in
      let both = occurrences-append done.last (slots_of (expanded slots.next was)) slots.free in
      let w = slots_was done.last in
      let low = below_count (length slots.blocks)
      (slots_of (expanded slots.next was) ++ slots.free) done.last consistent.once
      (omega arith) in
      (omega (arith, consistent.pool), omega arith)

  once_there : 0 < done.count → occurrences done.last
      (chain slots.next done.first done.count) + occurrences done.last
      (chain slots.next other.first other.count) ≤ 1
  once_there pos = let l = last_there pos in omega (arith, l.1)

  before_none : 0 < done.count → occurrences done.last (slots_of (expanded slots.next before)) ≡ 0
  before_none pos = let l = last_there pos in
      let some = last-in slots.next done.first done.last done.count (front pos) in
      omega (arith, l.1)

  rest_none : 0 < done.count → occurrences done.last (slots_of (expanded slots.next rest)) ≡ 0
  rest_none pos = let l = last_there pos in let some =
      last-in slots.next done.first done.last done.count (front pos) in omega (arith, l.1)

  pub join-expanded : end_of done ≡ other.start → done.kind ≡ other.kind
      → expanded (linked slots.next done other.first) (before ++ joined done other ∷ rest) ≡
      expanded slots.next was
  join-expanded ends kind =
      let now : List ℕ = linked slots.next done other.first in
      expanded-append now before (joined done other ∷ rest)
      ∙ ap₂ (λ xs ys. xs ++ ys) (expanded-linked slots.next done other.first before before_none)
      (expanded-more now (joined done other) rest
      ∙ ap₂ (λ xs ys. xs ++ ys) (join_singles slots.next done other done.count refl ends kind front
      (λ pos. (last_there pos).0) once_there)
      (expanded-linked slots.next done other.first rest rest_none)
      ∙ append_assoc (singles_of slots.next done) (singles_of slots.next other)
      (expanded slots.next rest)
      ∙ ap (λ xs. singles_of slots.next done ++ xs) (sym (expanded-more slots.next other rest))
      ∙ sym (expanded-more slots.next done (other ∷ rest)))
      ∙ sym (expanded-append slots.next before (done ∷ (other ∷ rest)))

  pub join-writing : end_of done ≡ other.start → done.kind ≡ other.kind
      → AreMaximalIn (any_from 0) (begins done.kind done.start) before
      → AreMaximal (end_of other) (max_capacity + 1) rest → AreChained slots.next before
      → IsChain slots.next other.first other.last other.count → AreChained slots.next rest
      → IsWriting before (joined done other) rest
      (record slots { next = linked slots.next done other.first }) (end_of other)
  join-writing ends kind low after cb co cr =
      let now : List ℕ = linked slots.next done other.first in
      let len = length-linked slots.next done other.first in
      record {
        consistent = rw (join-expanded ends kind, len) consistent;
        maximal_before = low;
        ends = omega (arith, ends);
        after = after;
        chained_before = chained-linked slots.next done other.first before before_none cb;
        chained_after = chained-linked slots.next done other.first rest rest_none cr;
        front = λ _. join_chain slots.next done other done.count refl co front
            (λ pos. (last_there pos).0) once_there;
      }

  -- the premises of a link from the last slot
  pub link-slot : 0 < done.count → done.last < length slots.next
  link-slot pos = (last_there pos).0

  pub link-used : 0 < done.count → occurrences done.last slots.free ≡ 0
  link-used pos = let l = last_there pos in let some =
      last-in slots.next done.first done.last done.count (front pos) in omega (arith, l.1)
