-- A table of runs after a cut of one run.
use Rattle.std.proofs.Common.{◌≡◌, ℕ, ◌+◌, ◌-◌, ◌<◌, ◌≤◌, suc, List, [], ◌∷◌, ◌++◌, length}
use Rattle.std.proofs.Common.{arith, refl, sym, ap, ap₂, ◌∙◌, append_assoc}
use Rattle.std.proofs.Common.{length-append, Option, Some, None}
use Rattle.std.specs.Prelude.{option_to_list, IfSome}
use Rattle.sg_store.specs.Disk.{max_capacity}
use Rattle.sg_pool.specs.MappedRecords.{outside_records}
use Rattle.sg_pool.specs.Slots.{Slots}
use Rattle.sg_table.specs.Records.{slots_of}
use Rattle.sg_table.specs.Occurrences.{occurrences}
use Rattle.sg_table.specs.declared.run.Run.{Run}
use Rattle.sg_block_map.specs.Cutting.{AreDistinct, IsCut}
use Rattle.sg_block_map.specs.Runs.{singles_of, expanded, AreChained, AreMaximal, any_from}
use Rattle.sg_pool.specs.Rising.{end_of, AreBetween}
use Rattle.sg_block_map.specs.Runs.{AreRuns}
use Rattle.sg_block_map.specs.Splitting.{IsFront}
use Rattle.sg_table.proofs.OccurrenceLemmas.{occurrences-append, once-le}
use Rattle.sg_block_map.proofs.BetweenLemmas.{between-expanded, between-singles}
use Rattle.sg_block_map.proofs.OrderLemmas.{IsPart, cut-maximal, narrow-any, apart-maximal}
use Rattle.sg_pool.proofs.RisingLemmas.{between-weaker, sorted-between}
use Rattle.sg_block_map.proofs.ExpandedLemmas.{expanded-append, expanded-more, expanded-none}
use Rattle.sg_block_map.proofs.ExpandedLemmas.{chained-append, chained-left, chained-right}
use Rattle.sg_block_map.proofs.ExpandedLemmas.{slots-append, slots-both}
use Rattle.sg_block_map.proofs.SplitLemmas.{expanded-one}
use Rattle.sg_pool.proofs.RemainingLemmas.{outside-before, outside-behind, outside-both}
use Rattle.sg_pool.proofs.RemainingLemmas.{outside-less}

pub slots-two : (s : ℕ) (xs ys : List Run) → occurrences s (slots_of (xs ++ ys)) ≡
    occurrences s (slots_of xs) + occurrences s (slots_of ys)
slots-two s xs ys = ap (occurrences s) (slots-append xs ys)
    ∙ occurrences-append s (slots_of xs) (slots_of ys)

pub length-slots : (xs : List Run) → length (slots_of xs) ≡ length xs
length-slots [] = refl
length-slots (x ∷ xs) = ap suc (length-slots xs)

pub gone-between : (next : List ℕ) (low high : ℕ) (gone : Option Run) → low ≤ high
    → IfSome gone (λ (part : Run). (low ≤ part.start) × (end_of part ≤ high))
    → AreBetween low high (expanded next (option_to_list gone))
gone-between next low high None le h = rw (expanded-none next) le
gone-between next low high (Some part) le h =
    rw (expanded-one next part) (between-weaker (singles_of next part) part.start
    (end_of part) low high h.0 h.1 (between-singles next part.start part.first part.count part.kind))

front-outside : (next : List ℕ) (run : Run) (low count : ℕ) (front : Option Run)
    → IfSome front (IsFront run low)
    → outside_records (expanded next (option_to_list front)) low count
    ≡ expanded next (option_to_list front)
front-outside next run low count None h = rw (expanded-none next) refl
front-outside next run low count (Some front) h = rw (expanded-one next front)
    (outside-before (singles_of next front) front.start (end_of front) low count
    (omega (arith, h.1))
    (between-singles next front.start front.first front.count front.kind))

back-outside : (next : List ℕ) (run : Run) (low count high : ℕ) (back : Option Run)
    → IfSome back (λ (part : Run). (high ≤ part.start) × (run.start ≤ part.start)
    × (end_of part ≡ end_of run) × (part.kind ≡ run.kind)) → low + count ≤ high
    → outside_records (expanded next (option_to_list back)) low count
    ≡ expanded next (option_to_list back)
back-outside next run low count high None h le = rw (expanded-none next) refl
back-outside next run low count high (Some back) h le = rw (expanded-one next back)
    (outside-behind (singles_of next back) back.start (end_of back) low count (omega (arith, h.0))
    (between-singles next back.start back.first back.count back.kind))

-- the parts lie where the run lay
part-front : (next : List ℕ) (run : Run) (low : ℕ) (front : Option Run) (more : List Run)
    → AreChained next (option_to_list front ++ more) → IfSome front (IsFront run low)
    → IfSome front (IsPart run 0 low)
part-front next run low None more k f = tt
part-front next run low (Some front) more k f = record {
  kind = f.3;
  not_empty = k.0.not_empty;
  starts = omega (arith, f.0);
  from_there = omega arith;
  ends = omega (arith, f.1);
  to_there = omega (arith, f.1);
}

part-back : (next : List ℕ) (run : Run) (high : ℕ) (back : Option Run)
    → AreChained next (option_to_list back)
    → IfSome back (λ (part : Run). (high ≤ part.start) × (run.start ≤ part.start)
    × (end_of part ≡ end_of run) × (part.kind ≡ run.kind))
    → IfSome back (IsPart run high (end_of run))
part-back next run high None k b = tt
part-back next run high (Some back) k b = record {
  kind = b.3;
  not_empty = k.0.not_empty;
  starts = b.1;
  from_there = b.0;
  ends = omega (arith, b.2);
  to_there = omega (arith, b.2);
}

module _ {old new : Slots} {kept kept' : List Run} {run : Run} {low high : ℕ}
    (cut : IsCut old new kept kept' run low high) (xs tail : List Run) where
  abbrev fs : List Run
  fs = option_to_list cut.front

  abbrev gs : List Run
  gs = option_to_list cut.gone

  abbrev bs : List Run
  bs = option_to_list cut.back

  abbrev was : List Run
  was = xs ++ (kept ++ run ∷ tail)

  abbrev is : List Run
  is = xs ++ (kept' ++ tail)

  pub shape : is ≡ (xs ++ kept) ++ ((fs ++ bs) ++ tail)
  shape = ap (λ zs. xs ++ (zs ++ tail)) cut.keeps
      ∙ ap (λ zs. xs ++ zs) (append_assoc kept (fs ++ bs) tail)
      ∙ sym (append_assoc xs kept ((fs ++ bs) ++ tail))

  was_shape : was ≡ (xs ++ kept) ++ (run ∷ tail)
  was_shape = sym (append_assoc xs kept (run ∷ tail))

  -- the single addresses before, in three parts
  pub was_apart : expanded old.next was ≡
      (expanded old.next (xs ++ kept) ++ expanded old.next fs) ++
      (expanded old.next gs ++ (expanded old.next bs ++ expanded old.next tail))
  was_apart =
      let p : List Run = expanded old.next (xs ++ kept) in
      let t : List Run = expanded old.next tail in let f : List Run = expanded old.next fs in
      let g : List Run = expanded old.next gs in let b : List Run = expanded old.next bs in
      let whole : singles_of old.next run ≡ f ++ (g ++ b) = sym cut.parts
      ∙ expanded-append old.next fs (gs ++ bs)
      ∙ ap (λ zs. f ++ zs) (expanded-append old.next gs bs) in
      ap (expanded old.next) was_shape ∙ expanded-append old.next (xs ++ kept) (run ∷ tail)
      ∙ ap (λ zs. p ++ zs) (expanded-more old.next run tail ∙ ap (λ zs. zs ++ t) whole
      ∙ append_assoc f (g ++ b) t ∙ ap (λ zs. f ++ zs) (append_assoc g b t))
      ∙ sym (append_assoc p f (g ++ (b ++ t)))

  pub now_apart : expanded old.next is ≡ (expanded old.next (xs ++ kept) ++ expanded old.next fs) ++
      (expanded old.next bs ++ expanded old.next tail)
  now_apart =
      let p : List Run = expanded old.next (xs ++ kept) in
      let t : List Run = expanded old.next tail in let f : List Run = expanded old.next fs in
      let b : List Run = expanded old.next bs in
      ap (expanded old.next) shape ∙ expanded-append old.next (xs ++ kept) ((fs ++ bs) ++ tail)
      ∙ ap (λ zs. p ++ zs) (expanded-append old.next (fs ++ bs) tail
      ∙ ap (λ zs. zs ++ t) (expanded-append old.next fs bs) ∙ append_assoc f b t)
      ∙ sym (append_assoc p f (b ++ t))

  -- the occurrences of a slot before and after
  slots_was : (s : ℕ) → occurrences s (slots_of (expanded old.next was)) ≡
      occurrences s (slots_of (expanded old.next is)) + occurrences s
      (slots_of (expanded old.next gs))
  slots_was s =
      let p : List Run = expanded old.next (xs ++ kept) in
      let t : List Run = expanded old.next tail in let f : List Run = expanded old.next fs in
      let g : List Run = expanded old.next gs in let b : List Run = expanded old.next bs in
      let w = ap (λ zs. occurrences s (slots_of zs)) was_apart
      ∙ slots-two s (p ++ f) (g ++ (b ++ t)) in
      let n = ap (λ zs. occurrences s (slots_of zs)) now_apart ∙ slots-two s (p ++ f) (b ++ t) in
      let m = slots-two s g (b ++ t) in
      omega arith

  lengths : length (expanded old.next was) ≡ length (expanded old.next is) + length
      (expanded old.next gs)
  lengths =
      let p : List Run = expanded old.next (xs ++ kept) in
      let t : List Run = expanded old.next tail in let f : List Run = expanded old.next fs in
      let g : List Run = expanded old.next gs in let b : List Run = expanded old.next bs in
      let w = ap length was_apart ∙ length-append (p ++ f) (g ++ (b ++ t)) in
      let n = ap length now_apart ∙ length-append (p ++ f) (b ++ t) in
      let m = length-append g (b ++ t) in
      omega arith

  module _ {room : ℕ} (before : AreRuns was old room) where
    distinct : AreDistinct (slots_of (expanded old.next is)) (slots_of (expanded old.next gs))
    distinct s =
        let once = once-le (length old.blocks)
        (slots_of (expanded old.next was) ++ old.free) s before.consistent.once in
        let both = occurrences-append s (slots_of (expanded old.next was)) old.free in
        let was = slots_was s in
        omega arith

    kept-distinct : AreDistinct (slots_of (expanded old.next kept'))
        (slots_of (expanded old.next gs))
    kept-distinct s =
        let d = distinct s in
        let a = slots-both old.next s xs (kept' ++ tail) in
        let b = slots-both old.next s kept' tail in
        omega arith

    kept-same : expanded new.next kept' ≡ expanded old.next kept'
    kept-same = (cut.stays kept' kept-distinct).0

    pub same-expanded : expanded new.next is ≡ expanded old.next is
    same-expanded = (cut.stays is distinct).0

    chained-is : AreChained old.next is
    chained-is =
        let all = rw was_shape at before.chained in
        let left = chained-left old.next (xs ++ kept) (run ∷ tail) all in
        let right = chained-right old.next (xs ++ kept) (run ∷ tail) all in
        let front = chained-left old.next fs (gs ++ bs) cut.chained in
        let back = chained-right old.next gs bs
        (chained-right old.next fs (gs ++ bs) cut.chained) in
        rw shape (chained-append old.next (xs ++ kept) ((fs ++ bs) ++ tail) left
        (chained-append old.next (fs ++ bs) tail
        (chained-append old.next fs bs front back) right.1))

    pub cut-runs : low < high → AreRuns is new room
    cut-runs lt =
        let maximal : AreMaximal 0 (max_capacity + 1) is =
        rw shape (cut-maximal (xs ++ kept) tail run cut.front cut.back low high (any_from 0)
        (any_from (max_capacity + 1)) lt (narrow-any 0) (rw was_shape at before.maximal)
        (part-front old.next run low cut.front (gs ++ bs) cut.chained cut.before)
        (part-back old.next run high cut.back
        (chained-right old.next gs bs (chained-right old.next fs (gs ++ bs) cut.chained))
        cut.behind)) in
        record {
          maximal = maximal;
          chained = (cut.stays is distinct).1 chained-is;
          consistent = record {
            sorted = sorted-between (expanded new.next is) 0 max_capacity
                (between-expanded new.next is 0 max_capacity
                (apart-maximal is 0 max_capacity (omega arith) maximal));
            once = record {
              each = λ t.
                  let a = ap (occurrences t) (ap₂
                  (λ xs ys. slots_of xs ++ ys) same-expanded cut.frees) in
                  let b = occurrences-append t (slots_of (expanded old.next is))
                  (slots_of (expanded old.next gs) ++ old.free) in
                  let d = occurrences-append t (slots_of (expanded old.next gs)) old.free in
                  let e = occurrences-append t (slots_of (expanded old.next was)) old.free in
                  let f = slots_was t in
                  let same : occurrences t (slots_of (expanded new.next is) ++ new.free) ≡
                  occurrences t (slots_of (expanded old.next was) ++ old.free) = omega arith in
                  same ∙ rw cut.blocks (before.consistent.once.each t);
            };
            count =
                let a = ap length same-expanded in
                let b = ap length cut.frees ∙ length-append
                (slots_of (expanded old.next gs)) old.free in
                let d = length-slots (expanded old.next gs) in
                omega (arith, before.consistent.count, lengths);
            pool = ap length cut.blocks ∙ before.consistent.pool;
          };
          links = cut.links ∙ before.links;
        }

    -- the addresses outside the range
    pub cut-outside : low ≤ high → outside_records (expanded new.next is) low (high - low)
        ≡ outside_records (expanded old.next was) low (high - low)
    cut-outside le =
        let p : List Run = expanded old.next (xs ++ kept) in
        let t : List Run = expanded old.next tail in let f : List Run = expanded old.next fs in
        let g : List Run = expanded old.next gs in let b : List Run = expanded old.next bs in
        ap (λ zs. outside_records zs low (high - low)) (same-expanded ∙ now_apart)
        ∙ outside-less (p ++ f) g (b ++ t) low high le
        (gone-between old.next low high cut.gone le cut.inside)
        ∙ ap (λ zs. outside_records zs low (high - low)) (sym was_apart)

    -- the parts that are kept lie there
    pub kept-outside : low ≤ high
        → outside_records (expanded old.next kept) low (high - low) ≡ expanded old.next kept
        → outside_records (expanded new.next kept') low (high - low) ≡ expanded new.next kept'
    kept-outside le none =
        let f : List Run = expanded old.next fs in let b : List Run = expanded old.next bs in
        let parts : expanded new.next kept' ≡ expanded old.next kept ++ (f ++ b) =
        kept-same ∙ ap (expanded old.next) cut.keeps ∙ expanded-append old.next kept (fs ++ bs)
        ∙ ap (λ zs. expanded old.next kept ++ zs) (expanded-append old.next fs bs) in
        rw parts (outside-both (expanded old.next kept) (f ++ b) low (high - low) none
        (outside-both f b low (high - low)
        (front-outside old.next run low (high - low) cut.front cut.before)
        (back-outside old.next run low (high - low) high cut.back cut.behind (omega arith))))
