-- Runs that lose the addresses of a range.
use Rattle.std.proofs.Common.{◌≡◌, ℕ, ◌+◌, ◌≤◌, List, [], ◌∷◌, ◌++◌, length, set, arith, refl, sym}
use Rattle.std.proofs.Common.{ap, ◌∙◌, append_assoc, length-append, Option, Some, None}
use Rattle.std.proofs.lemmas.List.{append-nil}
use Rattle.std.specs.Prelude.{option_to_list, IfSome}
use Rattle.sg_pool.specs.Chains.{chain, AreBelow, IsChain}
use Rattle.sg_pool.specs.Slots.{Slots}
use Rattle.sg_table.specs.Records.{slots_of}
use Rattle.sg_table.specs.Occurrences.{occurrences}
use Rattle.sg_table.specs.declared.run.Run.{Run}
use Rattle.sg_block_map.specs.Cutting.{AreDistinct, StaysBut, IsCut}
use Rattle.sg_block_map.specs.Runs.{singles_of, expanded, AreChained}
use Rattle.sg_pool.specs.Rising.{end_of}
use Rattle.sg_block_map.specs.Splitting.{IsFront, IsRest, IsSplit}
use Rattle.sg_table.proofs.OccurrenceLemmas.{occurrences-append}
use Rattle.sg_block_map.proofs.ExpandedLemmas.{expanded-append, expanded-none, expanded-set}
use Rattle.sg_block_map.proofs.ExpandedLemmas.{chained-set, chained-append, chained-left}
use Rattle.sg_block_map.proofs.ExpandedLemmas.{chained-right, slots-append, slots-singles}
use Rattle.sg_block_map.proofs.ExpandedLemmas.{slots-both, length-singles, last-in}
use Rattle.sg_pool.proofs.LinkLemmas.{below-left, below-right}
use Rattle.sg_block_map.proofs.SplitLemmas.{expanded-one}

pub slots-one : (next : List ℕ) (run : Run) → slots_of (expanded next (run ∷ [])) ≡
    chain next run.first run.count
slots-one next run = ap slots_of (expanded-one next run)
    ∙ slots-singles next run.start run.first run.count run.kind

pub length-part : (next : List ℕ) (run : Run) → length (expanded next (run ∷ [])) ≡ run.count
length-part next run = ap length (expanded-one next run)
    ∙ length-singles next run.start run.first run.count run.kind

pub stays-set : (next slots : List ℕ) (last to : ℕ) → 1 ≤ occurrences last slots
    → StaysBut next (set next last to) slots
stays-set next slots last to some runs distinct =
    let d = distinct last in
    (expanded-set next last to runs (omega arith), chained-set next last to runs (omega arith))

pub stays-same : (next slots : List ℕ) → StaysBut next next slots
stays-same next slots runs distinct = (refl, λ h. h)

-- the last slot of a part occurs once among its slots and the free ones
pub once-given : (next free : List ℕ) (first last count : ℕ) → IsChain next first last count
    → AreDistinct (chain next first count) free
    → occurrences last (chain next first count ++ free) ≡ 1
once-given next free first last count is distinct =
    let some = last-in next first last count is in
    let d = distinct last in
    omega (arith, occurrences-append last (chain next first count) free)

-- the slots of the parts of a run
pub part-slots : (next : List ℕ) (run : Run) (fs gs bs : List Run) (s : ℕ)
    → expanded next (fs ++ (gs ++ bs)) ≡ singles_of next run
    → occurrences s (slots_of (expanded next fs)) +
    (occurrences s (slots_of (expanded next gs)) + occurrences s (slots_of (expanded next bs))) ≡
    occurrences s (chain next run.first run.count)
part-slots next run fs gs bs s parts =
    let whole : occurrences s (slots_of (expanded next (fs ++ (gs ++ bs)))) ≡
    occurrences s (chain next run.first run.count)
    = ap (λ xs. occurrences s (slots_of xs)) parts
    ∙ ap (occurrences s) (slots-singles next run.start run.first run.count run.kind) in
    let a = slots-both next s fs (gs ++ bs) in
    let b = slots-both next s gs bs in
    omega arith

pub part-length : (next : List ℕ) (run : Run) (fs gs bs : List Run)
    → expanded next (fs ++ (gs ++ bs)) ≡ singles_of next run
    → length (expanded next fs) + (length (expanded next gs) + length (expanded next bs)) ≡
    run.count
part-length next run fs gs bs parts =
    let whole = ap length parts ∙ length-singles next run.start run.first run.count run.kind in
    let a = ap length (expanded-append next fs (gs ++ bs))
    ∙ length-append (expanded next fs) (expanded next (gs ++ bs)) in
    let b = ap length (expanded-append next gs bs)
    ∙ length-append (expanded next gs) (expanded next bs) in
    omega arith

pub part-below : (next : List ℕ) (count : ℕ) (run : Run) (fs gs bs : List Run)
    → expanded next (fs ++ (gs ++ bs)) ≡ singles_of next run
    → AreBelow count (chain next run.first run.count) → AreBelow count (slots_of (expanded next gs))
part-below next count run fs gs bs parts below =
    let whole : chain next run.first run.count ≡
    slots_of (expanded next fs) ++ (slots_of (expanded next gs) ++ slots_of (expanded next bs))
    = sym (slots-singles next run.start run.first run.count run.kind) ∙ ap slots_of (sym parts)
    ∙ ap slots_of (expanded-append next fs (gs ++ bs))
    ∙ slots-append (expanded next fs) (expanded next (gs ++ bs))
    ∙ ap (λ xs. slots_of (expanded next fs) ++ slots_of xs) (expanded-append next gs bs)
    ∙ ap (λ xs. slots_of (expanded next fs) ++ xs)
    (slots-append (expanded next gs) (expanded next bs)) in
    below-left count (slots_of (expanded next gs)) (slots_of (expanded next bs))
    (below-right count (slots_of (expanded next fs))
    (slots_of (expanded next gs) ++ slots_of (expanded next bs)) (rw whole at below))

-- a run that is split twice
pub parts-twice : (next : List ℕ) (run rest : Run) (low high : ℕ) (front gone back : Option Run)
    → IsSplit next run low front (Some rest) → IsSplit next rest high gone back
    → expanded next (option_to_list front ++ (option_to_list gone ++ option_to_list back)) ≡
    singles_of next run
parts-twice next run rest low high front gone back one two =
    let fs : List Run = option_to_list front in
    let gs : List Run = option_to_list gone ++ option_to_list back in
    expanded-append next fs gs ∙ ap (λ xs. expanded next fs ++ xs) (two.parts
    ∙ sym (expanded-one next rest)) ∙ sym (expanded-append next fs (rest ∷ [])) ∙ one.parts

pub chained-twice : (next : List ℕ) (run rest : Run) (low high : ℕ) (front gone back : Option Run)
    → IsSplit next run low front (Some rest) → IsSplit next rest high gone back
    → AreChained next (option_to_list front ++ (option_to_list gone ++ option_to_list back))
chained-twice next run rest low high front gone back one two =
    chained-append next (option_to_list front) (option_to_list gone ++ option_to_list back)
    (chained-left next (option_to_list front) (rest ∷ []) one.chained) two.chained

-- the chain of what is left of a run
pub rest-chained : (next : List ℕ) (run rest : Run) (low : ℕ) (front : Option Run)
    → IsSplit next run low front (Some rest) → IsChain next rest.first rest.last rest.count
rest-chained next run rest low front one =
    (chained-right next (option_to_list front) (rest ∷ []) one.chained).0

inside-part : (rest : Run) (low high : ℕ) (gone : Option Run) → low ≤ rest.start
    → IfSome gone (IsFront rest high) → IfSome gone (λ (part : Run). (low ≤ part.start)
    × (end_of part ≤ high))
inside-part rest low high None le h = tt
inside-part rest low high (Some part) le h = (omega (arith, h.0), omega (arith, h.1))

behind-part : (run rest : Run) (low high : ℕ) (back : Option Run) → IsRest run low rest
    → IfSome back (IsRest rest high) → IfSome back (λ (part : Run). (high ≤ part.start)
    × (run.start ≤ part.start) × (end_of part ≡ end_of run) × (part.kind ≡ run.kind))
behind-part run rest low high None r h = tt
behind-part run rest low high (Some part) r h =
    (h.1, omega (arith, h.0, r.0), h.2 ∙ r.2, h.4 ∙ r.4)

-- only the part before the range is left
pub cut-front : (old new : Slots) (kept kept' : List Run) (run : Run) (low high : ℕ)
    (front : Option Run) → IsSplit old.next run low front None
    → kept' ≡ kept ++ option_to_list front → new.next ≡ old.next → new.free ≡ old.free
    → new.blocks ≡ old.blocks
    → IsCut old new kept kept' run low high
cut-front old new kept kept' run low high front one keeps next free blocks =
    let fs : List Run = option_to_list front in
    record {
      front = front;
      gone = None;
      back = None;
      parts = one.parts;
      chained = one.chained;
      before = one.before;
      inside = tt;
      behind = tt;
      keeps = keeps ∙ ap (λ xs. kept ++ xs) (sym (append-nil fs));
      frees = free ∙ ap (λ xs. slots_of xs ++ old.free) (sym (expanded-none old.next));
      stays = rw next (stays-same old.next (slots_of (expanded old.next [])));
      links = ap length next;
      blocks = blocks;
    }

pub cut-twice : (old new : Slots) (kept kept' : List Run) (run rest : Run) (low high : ℕ)
    (front gone back : Option Run) → IsSplit old.next run low front (Some rest)
    → IsSplit old.next rest high gone back
    → kept' ≡ (kept ++ option_to_list front) ++ option_to_list back
    → new.free ≡ slots_of (expanded old.next (option_to_list gone)) ++ old.free
    → StaysBut old.next new.next (slots_of (expanded old.next (option_to_list gone)))
    → length new.next ≡ length old.next → new.blocks ≡ old.blocks
    → IsCut old new kept kept' run low high
cut-twice old new kept kept' run rest low high front gone back one two keeps frees stays links
    blocks = record {
      front = front;
      gone = gone;
      back = back;
      parts = parts-twice old.next run rest low high front gone back one two;
      chained = chained-twice old.next run rest low high front gone back one two;
      before = one.before;
      inside = inside-part rest low high gone one.after.1 two.before;
      behind = behind-part run rest low high back one.after two.after;
      keeps = keeps ∙ append_assoc kept (option_to_list front) (option_to_list back);
      frees = frees;
      stays = stays;
      links = links;
      blocks = blocks;
    }
