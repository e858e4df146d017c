-- The first and the last step of writing a range.
use Rattle.std.proofs.Common.{◌≡◌, ℕ, ◌+◌, ◌-◌, ◌<◌, ◌≤◌, ◌^◌, List, [], ◌∷◌, ◌++◌, length, drop}
use Rattle.std.proofs.Common.{arith, refl, sym, ap, ◌∙◌, append_assoc, length-append, Some}
use Rattle.std.proofs.Common.{None, Option, subst, Bool, true, false}
use Rattle.std.proofs.lemmas.List.{append-nil}
use Rattle.std.specs.FinMap as map
use Rattle.std.specs.Prelude.{unwrap_or, option_to_list, IfSome}
use Rattle.sg_store.specs.Disk.{Contents, Mapping, used_among, remapped}
use Rattle.sg_table.specs.Records.{run_at, same_kind}
use Rattle.sg_pool.specs.MappedRecords.{mapping_in, contents_of}
use Rattle.sg_store.specs.Disk.{used_at, max_capacity}
use Rattle.sg_pool.specs.Slots.{max_slots, Slots}
use Rattle.sg_table.specs.Records.{slots_of}
use Rattle.sg_pool.specs.MappedRecords.{IsConsistent}
use Rattle.sg_table.specs.declared.run.Kind.{Kind}
use Rattle.sg_table.specs.declared.run.Run.{Run}
use Rattle.sg_block_map.specs.Gathering.{AreNear}
use Rattle.sg_block_map.specs.Joining.{begun, begun_by, joined, linked, no_run, IsWriting}
use Rattle.sg_block_map.specs.Joining.{IsFinished, IsFinishedBy}
use Rattle.sg_block_map.specs.Runs.{singles_of, expanded, AreChained, AreMaximal, AreRuns}
use Rattle.sg_pool.specs.Rising.{end_of}
use Rattle.sg_block_map.specs.Runs.{Bound, any_from, behind, begins, AreMaximalIn}
use Rattle.sg_block_map.specs.Runs.{chained_contents, blocks_of}
use Rattle.sg_block_map.specs.Splitting.{IsRest}
use Rattle.sg_block_map.specs.Walking.{ahead_of, AreAhead, IsWalkFrom}
use Rattle.sg_store.proofs.DiskLemmas.{len-remapped, used_among-more, used_among-rest}
use Rattle.sg_store.proofs.DiskLemmas.{used_at-past}
use Rattle.sg_table.proofs.OccurrenceLemmas.{occurrences-append}
use Rattle.sg_pool.proofs.MappedLemmas.{len-contents_by, none_used}
use Rattle.sg_block_map.proofs.BetweenLemmas.{between-expanded}
use Rattle.sg_pool.proofs.RisingLemmas.{none-between, end_of_all}
use Rattle.sg_pool.proofs.RisingLemmas.{apart-left, apart-right, apart-le, apart-weaker}
use Rattle.sg_block_map.proofs.OrderLemmas.{apart-loose, apart-maximal, behind-low, behind-high}
use Rattle.sg_block_map.proofs.OrderLemmas.{behind-at-most, behind_all, begins-low, front-kept}
use Rattle.sg_block_map.proofs.OrderLemmas.{maximal-before, maximal-from, maximal-right, maximal-to}
use Rattle.sg_table.proofs.RecordLemmas.{alike}
use Rattle.sg_block_map.proofs.OrderLemmas.{narrow-any, same_kind-swap, written-maximal}
use Rattle.sg_block_map.proofs.RunSlotLemmas.{below-sub, length-expanded}
use Rattle.sg_block_map.proofs.ExpandedLemmas.{expanded-append, expanded-more, singles-none}
use Rattle.sg_block_map.proofs.ExpandedLemmas.{length-singles, chained-append, chained-left}
use Rattle.sg_block_map.proofs.ExpandedLemmas.{chained-right, slots-both}
use Rattle.sg_block_map.proofs.JoinLemmas.{join-expanded, join-writing, length-linked}
use Rattle.sg_block_map.proofs.WalkLemmas.{walk_from-parts, walk_from-chained, walk_from-maximal}
use Rattle.sg_block_map.proofs.WriteLemmas.{skip-maximal, parted, before-between}

-- a run without an address has none
pub no_run-expanded : (next : List ℕ) (lba : ℕ) (kind : Kind) (runs : List Run)
    → expanded next (no_run lba kind ∷ runs) ≡ expanded next runs
no_run-expanded next lba kind runs = expanded-more next (no_run lba kind) runs
    ∙ ap (λ xs. xs ++ expanded next runs) (singles-none next lba 0 kind)

front_end : (next : List ℕ) (runs more : List Run) (lba high : ℕ) (front : Run)
    → AreNear lba high runs → IsWalkFrom next runs lba (Some front) more → end_of front ≡ lba
front_end next [] more lba high front near t = let wrong = t.0 in cc
front_end next (run ∷ runs) more lba high front near t = let f = t.1.before in
    omega (arith, f.1, near.0)

-- the kind of the run before the range decides
pub by_kind : (P : Option Run × Run → Type 0) (kind : Kind) (front : Run) (lba : ℕ)
    → (same_kind front.kind kind ≡ true → P (None, front))
    → (same_kind front.kind kind ≡ false → P (Some front, no_run lba kind))
    → P (begun kind (Some front) lba)
by_kind P kind front lba same other = elim (same_kind front.kind kind) as
    (λ b. same_kind front.kind kind ≡ b → P (begun_by b kind front lba)) [
      | true ↦ same
      | false ↦ other
    ] refl

-- nothing is written yet
module _ (before runs after more : List Run) (slots : Slots) (lba high room : ℕ)
    (h : AreRuns (before ++ (runs ++ after)) slots room)
    (low : AreMaximal 0 lba before) (up : AreMaximal lba (max_capacity + 1) after)
    (near : AreNear lba high runs) (kind : Kind) where
  abbrev kept : Option Run × Run → List Run
  kept parts = before ++ option_to_list parts.0

  runs_chained : AreChained slots.next runs
  runs_chained = chained-left slots.next runs after
      (chained-right slots.next before (runs ++ after) h.chained)

  begin_after : (front : Option Run) → IsWalkFrom slots.next runs lba front more
      → AreMaximal lba (max_capacity + 1) (more ++ after)
  begin_after front t = walk_from-maximal slots.next runs after lba high
      (behind_all (any_from 0) before) (any_from (max_capacity + 1)) front more
      (maximal-right before (runs ++ after) (any_from 0) (any_from (max_capacity + 1)) h.maximal)
      up near t

  begin_parts : (front : Option Run) → IsWalkFrom slots.next runs lba front more
      → expanded slots.next (before ++ (option_to_list front ++ (more ++ after))) ≡
      expanded slots.next (before ++ (runs ++ after))
  begin_parts front t =
      let fs : List Run = option_to_list front in
      expanded-append slots.next before (fs ++ (more ++ after))
      ∙ ap (λ xs. expanded slots.next before ++ xs)
      (ap (expanded slots.next) (sym (append_assoc fs more after))
      ∙ expanded-append slots.next (fs ++ more) after
      ∙ ap (λ xs. xs ++ expanded slots.next after)
      (walk_from-parts slots.next runs lba front more t)
      ∙ sym (expanded-append slots.next runs after))
      ∙ sym (expanded-append slots.next before (runs ++ after))

  parts_chained : (front : Option Run) → IsWalkFrom slots.next runs lba front more
      → AreChained slots.next (option_to_list front ++ more)
  parts_chained front t = walk_from-chained slots.next runs lba front more runs_chained t

  rest_chained : (front : Option Run) → IsWalkFrom slots.next runs lba front more
      → AreChained slots.next (more ++ after)
  rest_chained front t = chained-append slots.next more after
      (chained-right slots.next (option_to_list front) more (parts_chained front t))
      (chained-right slots.next runs after (chained-right slots.next before
      (runs ++ after) h.chained))

  before_chained : AreChained slots.next before
  before_chained = chained-left slots.next before (runs ++ after) h.chained

  -- the table to be, if a run without an address is put after some others
  none_put : (xs : List Run) → expanded slots.next (xs ++ no_run lba kind ∷ (more ++ after)) ≡
      expanded slots.next (xs ++ (more ++ after))
  none_put xs = expanded-append slots.next xs (no_run lba kind ∷ (more ++ after))
      ∙ ap (λ zs. expanded slots.next xs ++ zs) (no_run-expanded slots.next lba kind (more ++ after))
      ∙ sym (expanded-append slots.next xs (more ++ after))

  abbrev IsBegun : Option Run × Run → Type 0
  IsBegun parts = (expanded slots.next (kept parts ++ parts.1 ∷ (more ++ after)) ≡
      expanded slots.next (before ++ (runs ++ after)))
      × IsWriting (kept parts) parts.1 (more ++ after) slots lba

  begun_none : IsWalkFrom slots.next runs lba None more → IsBegun (None, no_run lba kind)
  begun_none t =
      let same : before ++ [] ≡ before = append-nil before in
      let all : expanded slots.next ((before ++ []) ++ no_run lba kind ∷ (more ++ after)) ≡
      expanded slots.next (before ++ (runs ++ after))
      = ap (λ xs. expanded slots.next (xs ++ no_run lba kind ∷ (more ++ after))) same
      ∙ none_put before ∙ begin_parts None t in (
        all,
        record {
          consistent = rw (all, h.links) h.consistent;
          maximal_before = rw same (maximal-to before (any_from 0) (any_from lba)
              (begins kind lba) (λ k. begins-low kind k lba) low);
          ends = omega arith;
          after = begin_after None t;
          chained_before = rw same before_chained;
          chained_after = rest_chained None t;
          front = λ pos. absurd (omega arith);
        },
      )

  module _ (front : Run) (t : IsWalkFrom slots.next runs lba (Some front) more) where
    parted_at : (run : Run) × (tail : List Run) × (runs ≡ run ∷ tail)
        × (front.start ≡ run.start) × (front.kind ≡ run.kind)
    parted_at = at runs t
      where
        at : (rs : List Run) → IsWalkFrom slots.next rs lba (Some front) more
            → (run : Run) × (tail : List Run) × (rs ≡ run ∷ tail)
            × (front.start ≡ run.start) × (front.kind ≡ run.kind)
        at [] w = let wrong = w.0 in cc
        at (run ∷ tail) w = let f = w.1.before in (run, tail, refl, f.0, f.3)

    all_shape : before ++ (runs ++ after) ≡ before ++ parted_at.0 ∷ (parted_at.1 ++ after)
    all_shape = ap (λ xs. before ++ (xs ++ after)) parted_at.2

    all_maximal : AreMaximal 0 (max_capacity + 1) (before ++ parted_at.0 ∷ (parted_at.1 ++ after))
    all_maximal = rw all_shape at h.maximal

    begun_same : IsBegun (None, front)
    begun_same =
        let same : before ++ [] ≡ before = append-nil before in
        let all : expanded slots.next ((before ++ []) ++ front ∷ (more ++ after)) ≡
        expanded slots.next (before ++ (runs ++ after))
        = ap (λ xs. expanded slots.next (xs ++ front ∷ (more ++ after))) same
        ∙ begin_parts (Some front) t in
        let before_run = maximal-before before (parted_at.1 ++ after) parted_at.0 (any_from 0)
        (any_from (max_capacity + 1)) (narrow-any 0) all_maximal in (
          all,
          record {
            consistent = rw (all, h.links) h.consistent;
            maximal_before = subst (AreMaximalIn (any_from 0) (begins front.kind front.start))
                (sym same) (subst (λ k. AreMaximalIn (any_from 0) (begins k front.start) before)
                (sym parted_at.4) (subst (λ s. AreMaximalIn (any_from 0)
                (begins parted_at.0.kind s) before) (sym parted_at.3) before_run));
            ends = front_end slots.next runs more lba high front near t;
            after = begin_after (Some front) t;
            chained_before = rw same before_chained;
            chained_after = rest_chained (Some front) t;
            front = λ pos. (parts_chained (Some front) t).0;
          },
        )

    begun_other : same_kind front.kind kind ≡ false → IsBegun (Some front, no_run lba kind)
    begun_other other =
        let all : expanded slots.next ((before ++ front ∷ []) ++ no_run lba kind ∷ (more ++ after)) ≡
        expanded slots.next (before ++ (runs ++ after))
        = none_put (before ++ front ∷ [])
        ∙ ap (expanded slots.next) (append_assoc before (front ∷ []) (more ++ after))
        ∙ begin_parts (Some front) t in
        let chain = (parts_chained (Some front) t).0 in
        let ends = front_end slots.next runs more lba high front near t in (
          all,
          record {
            consistent = rw (all, h.links) h.consistent;
            maximal_before = front-kept before (parted_at.1 ++ after) parted_at.0 front kind
                (any_from 0) (any_from (max_capacity + 1)) lba (narrow-any 0) all_maximal
                parted_at.3 parted_at.4 chain.not_empty (omega (arith, ends))
                (same_kind-swap kind front.kind ∙ other);
            ends = omega arith;
            after = begin_after (Some front) t;
            chained_before = chained-append slots.next before (front ∷ []) before_chained
                (chain, tt);
            chained_after = rest_chained (Some front) t;
            front = λ pos. absurd (omega arith);
          },
        )

  pub begin-range : (front : Option Run) → IsWalkFrom slots.next runs lba front more
      → IsBegun (begun kind front lba)
  begin-range None t = begun_none t
  begin-range (Some front) t = by_kind IsBegun kind front lba (λ same. begun_same front t)
      (begun_other front t)

-- the range is written
written-runs : (before after : List Run) (done : Run) (slots : Slots) (lba room : ℕ)
    → IsWriting before done after slots lba → 0 < done.count
    → AreMaximalIn (behind done) (any_from (max_capacity + 1)) after → length slots.next ≡ room
    → AreRuns (before ++ done ∷ after) slots room
written-runs before after done slots lba room w some up len = record {
  maximal = written-maximal before after done (any_from 0) (any_from (max_capacity + 1)) some
      w.maximal_before up;
  chained = chained-append slots.next before (done ∷ after) w.chained_before
      (w.front some, w.chained_after);
  consistent = rw len at w.consistent;
  links = len;
}

some_same : (a b : Run) → Some a ≡ Some b → a ≡ b
some_same a b e = ap (λ o. unwrap_or o a) e

none_ahead : (runs after : List Run) (low bound : Bound) (high : ℕ) → ((kind : Kind) → high < low kind)
    → AreMaximalIn low bound (runs ++ after) → AreNear 0 high runs → runs ≡ []
none_ahead [] after low bound high lt h near = refl
none_ahead (run ∷ runs) after low bound high lt h near =
    absurd (omega (arith, h.0, near.1, lt run.kind))

-- at the end of the range at most one run is ahead
last-ahead : (runs after : List Run) (run : Run) (at high : ℕ)
    → AreMaximal high (max_capacity + 1) (run ∷ drop at runs ++ after)
    → AreNear 0 high (run ∷ drop at runs) → (run.start ≡ high) × (drop at runs ≡ [])
last-ahead runs after run at high h near = (
  omega (arith, h.0, near.1),
  none_ahead (drop at runs) after (behind run) (any_from (max_capacity + 1)) high
      (λ kind. omega (arith, h.0, h.1, behind-low run kind)) h.2 near.2,
)

-- the runs after the range in the end
abbrev pub behind_it : (back : Option Run) (after : List Run) → List Run
behind_it back after = option_to_list back ++ after

-- The table after the range, and its single addresses.
pub record IsWritten (before after : List Run) (done : Run) (rest : List Run) (result : Run)
    (back : Option Run) (old new : Slots) (room : ℕ) : Type 0 where
  pub runs : AreRuns (before ++ result ∷ behind_it back after) new room
  pub expanded_same : expanded new.next (before ++ result ∷ behind_it back after) ≡
      expanded old.next (before ++ done ∷ rest)
  pub blocks : new.blocks ≡ old.blocks
  pub links : new.links ≡ old.links

-- no run is ahead, or one that is kept
kept-written : (before after rest : List Run) (done result : Run) (back : Option Run)
    (high room : ℕ) (old new : Slots) → rest ≡ behind_it back after
    → IsWriting before done rest old high → 0 < done.count
    → AreMaximalIn (behind done) (any_from (max_capacity + 1)) (behind_it back after)
    → length old.next ≡ room → result ≡ done → new ≡ old
    → IsWritten before after done rest result back old new room
kept-written before after rest done result back high room old new is w some up len same pool =
    rw (same, pool, is) (record {
      runs = written-runs before (behind_it back after) done old high room (rw is at w) some up len;
      expanded_same = refl;
      blocks = refl;
      links = refl;
    })

-- a run of its kind that is ahead is joined
joined-written : (before after : List Run) (done found result : Run) (high room : ℕ)
    (old new : Slots) → IsWriting before done (found ∷ after) old high → found.start ≡ high
    → found.kind ≡ done.kind → length old.next ≡ room → result ≡ joined done found
    → new ≡ record old { next = linked old.next done found.first }
    → IsWritten before after done (found ∷ after) result None old new room
joined-written before after done found result high room old new w start alike_kind len same pool =
    let ends : end_of done ≡ found.start = w.ends ∙ sym start in
    let kind : done.kind ≡ found.kind = sym alike_kind in
    let all = join-expanded before done found after old w.consistent w.front ends kind in
    let next : List ℕ = linked old.next done found.first in
    let writing = join-writing before done found after old w.consistent w.front ends kind
    w.maximal_before
    (maximal-from after (behind found) (any_from (max_capacity + 1)) (any_from (end_of found))
    (λ k. behind-low found k) w.after.2)
    w.chained_before w.chained_after.0 w.chained_after.1 in
    let some : 0 < (joined done found).count = let c = w.chained_after.0.not_empty in omega arith in
    rw (same, pool) (record {
      runs = written-runs before after (joined done found) (record old { next = next })
          (end_of found) room writing some
          (maximal-from after (behind found) (any_from (max_capacity + 1))
          (behind (joined done found))
          (behind-at-most (joined done found) found kind (omega (arith, ends))) w.after.2)
          (length-linked old.next done found.first ∙ len);
      expanded_same = all;
      blocks = refl;
      links = refl;
    })

finished_by : (P : Bool → Type 0) (b : Bool) → (b ≡ true → P true) → (b ≡ false → P false) → P b
finished_by P true same other = same refl
finished_by P false same other = other refl

-- the range is written, and the run after it is joined or kept
pub finished : (before after runs : List Run) (done result : Run) (run back : Option Run)
    (at high room : ℕ) (old new : Slots) → IsWriting before done
    (ahead_of runs run at ++ after) old high → AreNear 0 high (ahead_of runs run at)
    → IsFinished old new done run result back
    → 0 < done.count → AreMaximal (high + 1) (max_capacity + 1) after → length old.next ≡ room
    → IsWritten before after done (ahead_of runs run at ++ after) result back old new room
finished before after runs done result None back at high room old new w near f some up len =
    let none = f.1 in
    kept-written before after after done result back high room old new
    (ap (λ o. behind_it o after) (sym none)) w some
    (rw none (maximal-from after (any_from (high + 1)) (any_from (max_capacity + 1)) (behind done)
    (λ kind. omega (arith, behind-high done kind, w.ends)) up)) len f.0 f.2
finished before after runs done result (Some found) back at high room old new w near f some up len =
    let last = last-ahead runs after found at high w.after near in
    let shape : found ∷ drop at runs ++ after ≡ found ∷ after =
    ap (λ xs. found ∷ (xs ++ after)) last.1 in
    let w' = rw shape at w in
    let all = finished_by (λ b. IsFinishedBy b old new done found result back
    → same_kind found.kind done.kind ≡ b
    → IsWritten before after done (found ∷ after) result back old new room)
    (same_kind found.kind done.kind)
    (λ _ g same. rw g.1 (joined-written before after done found result high room old new w' last.0
    (alike found.kind done.kind same) len g.0 g.2))
    (λ _ g other. kept-written before after (found ∷ after) done result back high room old new
    (ap (λ o. behind_it o after) (sym g.1)) w' some
    (rw g.1 (
      rw other (omega (arith, w.ends, last.0)),
      w'.after.1,
      w'.after.2,
    )) len g.0 g.2)
    f refl in
    rw shape all

-- the table that is put, from the part that is kept before the range on
pub parts-shape : (before fs bs after : List Run) (run : Run)
    → before ++ ((fs ++ run ∷ bs) ++ after) ≡ (before ++ fs) ++ run ∷ (bs ++ after)
parts-shape before fs bs after run = ap (λ xs. before ++ xs) (append_assoc fs (run ∷ bs) after)
    ∙ sym (append_assoc before fs (run ∷ (bs ++ after)))

-- a slot is free if one is needed
pub free-there : (before after runs : List Run) (done : Run) (run : Option Run) (at lba i count : ℕ)
    (old now : Slots) (rs : List Run) (f : ℕ → Mapping)
    → IsWriting before done (ahead_of runs run at ++ after) now (lba + i)
    → AreMaximal (lba + i + 1) (max_capacity + 1) after
    → run_at run (lba + i) ≡ None → IsConsistent (expanded old.next rs) old.blocks old.free
    (length now.next) → chained_contents (before ++ done ∷ (ahead_of runs run at ++ after)) now ≡
    remapped (chained_contents rs old) lba i f
    → i < count → count ≤ length old.free + used_among (chained_contents rs old) lba count
    → 0 < length now.free
free-there before after runs done run at lba i count old now rs f w up none t same lt free =
    let rest : List Run = ahead_of runs run at ++ after in
    let was : Contents = chained_contents rs old in
    let here : ℕ = lba + i in
    let skip = skip-maximal runs after run at here w.after up none in
    let xs : List Run = expanded now.next (before ++ done ∷ []) in
    let ys : List Run = expanded now.next rest in
    let nowhere = none-between xs ys 0 here (here + 1) (max_capacity + 1) here
    (before-between now.next before done here w.maximal_before w.ends)
    (between-expanded now.next rest (here + 1) (max_capacity + 1)
    (apart-loose rest (here + 1) (here + 1) (max_capacity + 1) (omega arith) skip)) (omega arith)
    (omega arith) in
    let unmapped : used_at (chained_contents (before ++ done ∷ rest) now) here ≡ 0
    = ap (λ zs. used_at (contents_of zs now.blocks) here) (parted now.next before done rest)
    ∙ none_used (mapping_in now.blocks) (xs ++ ys) here nowhere in
    let not_mapped : used_at was here ≡ 0 =
    sym (ap (λ m. used_at m here) same ∙ used_at-past was lba i f) ∙ unmapped in
    let all = len-contents_by (mapping_in now.blocks)
    (expanded now.next (before ++ done ∷ rest)) w.consistent.sorted in
    let all_was = len-contents_by (mapping_in old.blocks) (expanded old.next rs) t.sorted in
    let size = ap map.len same in
    let grown = len-remapped was lba i f in
    let more = used_among-more was lba i in
    let on : i + 1 + (count - (i + 1)) ≡ count = omega arith in
    let rest_of_range = rw on at (used_among-rest was lba (i + 1) (count - (i + 1))) in
    omega (arith, w.consistent.count, t.count)

-- a run that is being written has no more addresses than the pool has slots
pub next-fits : (before : List Run) (done run : Run) (rest : List Run) (slots : Slots) (lba : ℕ)
    → IsWriting before done (run ∷ rest) slots lba → done.count + run.count ≤ length slots.next
next-fits before done run rest slots lba w =
    let a = ap length (expanded-append slots.next before (done ∷ (run ∷ rest)))
    ∙ length-append (expanded slots.next before) (expanded slots.next (done ∷ (run ∷ rest))) in
    let b = ap length (expanded-more slots.next done (run ∷ rest))
    ∙ length-append (singles_of slots.next done) (expanded slots.next (run ∷ rest)) in
    let d = length-singles slots.next done.start done.first done.count done.kind in
    let e = ap length (expanded-more slots.next run rest)
    ∙ length-append (singles_of slots.next run) (expanded slots.next rest) in
    let f = length-singles slots.next run.start run.first run.count run.kind in
    omega (arith, w.consistent.count)

near-weaker : (runs : List Run) (low high : ℕ) → AreNear low high runs → AreNear 0 high runs
near-weaker [] low high h = tt
near-weaker (run ∷ runs) low high h = (omega arith, h.1, near-weaker runs low high h.2)

rest-near : (run : Run) (rest : Option Run) (runs : List Run) (lba high : ℕ) → lba ≤ high
    → run.start ≤ high → AreNear 0 high runs → IfSome rest (IsRest run lba)
    → AreNear 0 high (option_to_list rest ++ runs)
rest-near run None runs lba high le start near h = near
rest-near run (Some rest) runs lba high le start near h = (omega arith, omega (arith, h.3), near)

-- the runs near a range
pub gathered-ahead : (before runs after : List Run) (slots : Slots) (room : ℕ)
    → AreRuns (before ++ (runs ++ after)) slots room
    → AreAhead slots.next (length slots.next) 0 runs
gathered-ahead before runs after slots room h =
    let all : List Run = before ++ (runs ++ after) in
    let right = apart-right before (runs ++ after) 0 max_capacity
    (apart-maximal all 0 max_capacity (omega arith) h.maximal) in
    let own = apart-left runs after (end_of_all 0 before) max_capacity right in
    let le = apart-le after (end_of_all (end_of_all 0 before) runs) max_capacity
    (apart-right runs after (end_of_all 0 before) max_capacity right) in
    let same : length slots.next ≡ length slots.blocks = h.links ∙ sym h.consistent.pool in
    record {
      apart = apart-weaker runs (end_of_all 0 before) (end_of_all (end_of_all 0 before) runs) 0
          max_capacity (omega arith) le own;
      chained = chained-left slots.next runs after
          (chained-right slots.next before (runs ++ after) h.chained);
      below = rw same (below-sub (length slots.blocks) (slots_of (expanded slots.next runs))
          (slots_of (expanded slots.next all) ++ slots.free) h.consistent.once (λ t.
          let both = occurrences-append t (slots_of (expanded slots.next all)) slots.free in
          let a = slots-both slots.next t before (runs ++ after) in
          let b = slots-both slots.next t runs after in
          omega arith));
    }

pub walk_from-near : (next : List ℕ) (runs more : List Run) (lba high : ℕ) (front : Option Run)
    → lba ≤ high → AreNear lba high runs → IsWalkFrom next runs lba front more → AreNear 0 high more
walk_from-near next [] more lba high front le near t = rw t.1 tt
walk_from-near next (run ∷ runs) more lba high front le near t =
    rw t.2 (rest-near run t.0 runs lba high le (near.1)
    (near-weaker runs lba high near.2) t.1.after)

pub walk_from-start : (next : List ℕ) (runs more : List Run) (lba : ℕ) (kind : Kind)
    (front : Option Run) → IsWalkFrom next runs lba front more
    → (begun kind front lba).1.start ≤ lba
walk_from-start next runs more lba kind None t = omega arith
walk_from-start next [] more lba kind (Some front) t = let wrong = t.0 in cc
walk_from-start next (run ∷ runs) more lba kind (Some front) t =
    let f = t.1.before in
    by_kind (λ parts. parts.1.start ≤ lba) kind front lba (λ _. omega (arith, f.2)) (λ _. omega arith)

pub walk_from-blocks : (next : List ℕ) (runs more : List Run) (lba : ℕ) (front : Option Run)
    → IsWalkFrom next runs lba front more → length
    (expanded next (option_to_list front)) + blocks_of more ≡ blocks_of runs
walk_from-blocks next runs more lba front t =
    let fs : List Run = option_to_list front in
    let parts = ap length (walk_from-parts next runs lba front more t) in
    let a = ap length (expanded-append next fs more)
    ∙ length-append (expanded next fs) (expanded next more) in
    let b = length-expanded next more in
    let d = length-expanded next runs in
    omega arith

-- the run that takes up the range is of its kind
pub walk_from-kind : (kind : Kind) (front : Option Run) (lba : ℕ)
    → (begun kind front lba).1.kind ≡ kind
walk_from-kind kind None lba = refl
walk_from-kind kind (Some front) lba = by_kind (λ parts. parts.1.kind ≡ kind) kind front lba
    (λ same. alike front.kind kind same) (λ _. refl)

-- one more address fits: the next run has one, or a slot is free
pub one-fits : (before after runs : List Run) (done : Run) (run : Option Run) (at lba : ℕ)
    (slots : Slots) → IsWriting before done (ahead_of runs run at ++ after) slots lba
    → (run_at run lba ≡ None → 0 < length slots.free) → done.count < length slots.next
one-fits before after runs done None at lba slots w free =
    let some = free refl in
    let a = ap length (expanded-append slots.next before (done ∷ after))
    ∙ length-append (expanded slots.next before) (expanded slots.next (done ∷ after)) in
    let b = ap length (expanded-more slots.next done after)
    ∙ length-append (singles_of slots.next done) (expanded slots.next after) in
    let d = length-singles slots.next done.start done.first done.count done.kind in
    omega (arith, w.consistent.count)
one-fits before after runs done (Some found) at lba slots w free =
    let fits = next-fits before done found (drop at runs ++ after) slots lba w in
    let some : 0 < found.count = w.after.1 in
    omega arith

pub ahead-fits : (before after runs : List Run) (done : Run) (run : Option Run) (at lba : ℕ)
    (slots : Slots) → IsWriting before done (ahead_of runs run at ++ after) slots lba
    → length slots.next ≤ max_slots → IfSome run (λ (found : Run). done.count + found.count < 2 ^ 32)
ahead-fits before after runs done None at lba slots w le = tt
ahead-fits before after runs done (Some found) at lba slots w le = let fits =
    next-fits before done found (drop at runs ++ after) slots lba w in omega arith
