-- One step of an edit.
use Rattle.std.proofs.Common.{◌≡◌, ◌≢◌, ℕ, ◌+◌, ◌<◌, List, [], ◌∷◌, ◌++◌, length, set, arith, sym}
use Rattle.std.proofs.Common.{ap, ◌∙◌, Some, None, length-append, length-set, refl, get_or, drop}
use Rattle.std.proofs.Common.{append_assoc, take, add-one, ◌≤◌}
use Rattle.std.proofs.Math.Seq.{drop-cons, set-append_seam}
use Rattle.std.specs.FinMap as map
use Rattle.std.specs.Prelude.{slice_index_or, insert, unwrap_or}
use Rattle.std.specs.List.{splice}
use Rattle.sg_store.specs.Disk.{Contents}
use Rattle.sg_store.specs.Disk.{Mapping}
use Rattle.sg_store.specs.Disk.Mapping.{Data, Anchored}
use Rattle.std.proofs.lemmas.List.Elements.{All-append, All-cons, All-drop, All-get_or, All-set}
use Rattle.std.proofs.lemmas.List.Elements.{All-take}
use Rattle.sg_pool.specs.MappedRecords.{contents_of, filled_slot, kind_of, mapping_in}
use Rattle.sg_table.specs.Records.{start_of, IsLowerBound, IsNext, with_kind}
use Rattle.sg_store.specs.Disk.{used_at}
use Rattle.sg_pool.specs.Slots.{Slots}
use Rattle.sg_pool.specs.MappedRecords.{IsConsistent}
use Rattle.sg_table.specs.Draft.{Drafted, pushed}
use Rattle.sg_plain_map.specs.Editing.{edited, IsEditing, IsSingle}
use Rattle.sg_pool.specs.Content.{kind_for, mapping_for}
use Rattle.sg_pool.specs.declared.content.Content.{Content}
use Rattle.sg_pool.specs.declared.content.Content.TheVariants.{Blocks, Anchor}
use Rattle.sg_table.specs.Records.{run_at}
use Rattle.sg_table.specs.declared.run.Kind.{Kind}
use Rattle.sg_table.specs.declared.run.Run.{Run}
use Rattle.sg_table.specs.declared.cursor.Cursor.{Cursor}
use Rattle.sg_table.proofs.RecordLemmas.{none_at, index-mapped}
use Rattle.sg_pool.proofs.MappedLemmas.{none_used, one_used}
use Rattle.sg_table.proofs.IndexLemmas.{index-insert}
use Rattle.sg_table.proofs.SpliceLemmas.{front_of, insert-splice, same-splice, next-splice}
use Rattle.sg_pool.proofs.ConsistencyLemmas.{have_slots, contents-added}
use Rattle.sg_pool.proofs.ConsistencyLemmas.{consistent-kind, consistent-over, contents-changed}
use Rattle.sg_pool.proofs.ConsistencyLemmas.{consistent-inserted, contents-inserted, contents-anchored}
use Rattle.sg_pool.proofs.ConsistencyLemmas.{starts-kind}
use Rattle.sg_plain_map.proofs.CursorLemmas.{found, missed}

-- a record of the table is drafted with a change
set-splice : (rs done : List Run) (from i : ℕ) (r : Run) → from ≤ length rs → i < length rs
    → splice rs from (i + 1) (done ++ r ∷ []) ≡ set (splice rs from i done) (from + length done) r
set-splice rs done from i r h lt =
    let p : List Run = take from rs in let t : List Run = drop (i + 1) rs in
    let n : from + length done ≡ length (p ++ done) =
    omega (arith, length-append p done, front_of rs from h) in
    let next : drop i rs ≡ get_or rs i r ∷ t = rw add-one (drop-cons rs i r lt) in
    let whole : p ++ (done ++ get_or rs i r ∷ t) ≡ (p ++ done) ++ get_or rs i r ∷ t =
    sym (append_assoc p done (get_or rs i r ∷ t)) in
    sym (rw (next, whole, n) (set-append_seam (p ++ done) (get_or rs i r) t r
    ∙ append_assoc p done (r ∷ t) ∙ ap (λ x. p ++ x) (sym (append_assoc done (r ∷ []) t))))

-- ---- The new content of an address

-- the kind of its record
pub kind-of : (content : Content) (index : ℕ) → kind_for content ≡ kind_of (mapping_for content index)
kind-of (Blocks source) index = refl
kind-of Anchor index = refl

-- one more record, or a record of another kind, with its block
consistent-filled : (rs : List Run) (bs : List (List ℕ)) (free : List ℕ) (room s : ℕ) (x : Mapping)
    → IsConsistent rs bs free room → IsConsistent rs (filled_slot bs s x) free room
consistent-filled rs bs free room s (Data b) consistent = consistent-over rs bs free room s b consistent
consistent-filled rs bs free room s Anchored consistent = consistent

filled-inserted : (rs : List Run) (bs : List (List ℕ)) (free : List ℕ) (room i : ℕ) (r : Run)
    (x : Mapping) → IsConsistent rs bs (r.first ∷ free) room
    → ((j : ℕ) → j < length rs → start_of rs j ≢ r.start) → r.kind ≡ kind_of x
    → contents_of (insert rs i r) (filled_slot bs r.first x) ≡ map.insert (contents_of rs bs) r.start x
filled-inserted rs bs free room i r (Data b) consistent none kind =
    contents-added rs bs free room i r b consistent none kind
filled-inserted rs bs free room i r Anchored consistent none kind =
    contents-inserted rs bs free room i r consistent none
    ∙ ap (λ k. map.insert (contents_of rs bs) r.start (mapping_in bs r.first k)) kind

filled-changed : (rs : List Run) (bs : List (List ℕ)) (free : List ℕ) (room i : ℕ) (r : Run)
    (x : Mapping) → IsConsistent rs bs free room → i < length rs → r ≡ get_or rs i r
    → contents_of (set rs i (with_kind (kind_of x) r)) (filled_slot bs r.first x)
    ≡ map.insert (contents_of rs bs) r.start x
filled-changed rs bs free room i r (Data b) consistent h e =
    contents-changed rs bs free room i r b consistent h e
filled-changed rs bs free room i r Anchored consistent h e =
    contents-anchored rs bs free room i r consistent h e

-- a record that has the kind already does not change
same-kind : (run : Run) (kind : Kind) → run.kind ≡ kind → with_kind kind run ≡ run
same-kind run kind is = ap (λ k. with_kind k run) (sym is)

abbrev edited_contents : List Run → Slots → Drafted → Cursor → Contents
edited_contents rs slots draft cursor = contents_of (edited rs draft cursor) slots.blocks

-- An address was drafted with its new content.
pub record IsPut (rs : List Run) (room : ℕ) (slots slots' : Slots) (draft draft' : Drafted)
    (cursor cursor' : Cursor) (lba : ℕ) (x : Mapping) (kind : Kind) : Type 0 where
  pub contents : edited_contents rs slots' draft' cursor'
      ≡ map.insert (edited_contents rs slots draft cursor) lba x
  pub editing : IsEditing rs room slots' draft' cursor' (lba + 1)
  pub same : (run : Run) → run_at cursor.next lba ≡ Some run → run.kind ≡ kind
      → edited rs draft' cursor' ≡ edited rs draft cursor

module _ {rs : List Run} {room : ℕ} {slots : Slots} {draft : Drafted} {cursor : Cursor} {lba : ℕ}
    (h : IsEditing rs room slots draft cursor lba) where
  abbrev contents : Slots → Drafted → Cursor → Contents
  contents = edited_contents rs

  abbrev at : ℕ
  at = draft.from + length draft.records

  abbrev now : List Run
  now = edited rs draft cursor

  longer : (run : Run) → length (draft.records ++ run ∷ []) ≡ length draft.records + 1
  longer run = length-append draft.records (run ∷ [])

  on : (run : Run) → draft.from + length (draft.records ++ run ∷ []) ≡ at + 1
  on run = omega (arith, longer run)

  -- the address is not mapped
  module _ (none : run_at cursor.next lba ≡ None) where
    not-there : (j : ℕ) → j < length now → start_of now j ≢ lba
    not-there = none_at now at lba h.consistent.sorted h.index
        (missed now cursor.next at lba
        (next-splice rs draft.records draft.from cursor.index cursor.next
        (omega (arith, h.within)) h.within.1 h.next) none)

    pub unmapped-there : used_at (contents slots draft cursor) lba ≡ 0
    unmapped-there = none_used (mapping_in slots.blocks) now lba not-there

    module _ (slots' : Slots) (draft' : Drafted) (run : Run) (x : Mapping)
        (taken : slots.free ≡ run.first ∷ slots'.free)
        (put : slots'.blocks ≡ filled_slot slots.blocks run.first x) (start : run.start ≡ lba)
        (kind : run.kind ≡ kind_of x) (one : run.count ≡ 1)
        (drafted : draft' ≡ pushed draft run) where
      consistent : IsConsistent now slots.blocks (run.first ∷ slots'.free) room
      consistent = rw taken at h.consistent

      index : IsLowerBound now at run.start
      index = rw (sym start) at h.index

      other : (j : ℕ) → j < length now → start_of now j ≢ run.start
      other = rw (sym start) at not-there

      inserted : edited rs (pushed draft run) cursor ≡ insert now at run
      inserted = sym (insert-splice rs draft.records draft.from cursor.index run (omega (arith, h.within)))

      added-contents : contents slots' draft' cursor ≡ map.insert (contents slots draft cursor) lba x
      added-contents = rw (drafted, put, inserted, sym start)
          (filled-inserted now slots.blocks slots'.free room at run x consistent other kind)

      added-editing : IsEditing rs room slots' draft' cursor (lba + 1)
      added-editing = rw (drafted, sym start) (record {
        single = rw inserted (All-append IsSingle (take at now) (run ∷ drop at now)
            (All-take IsSingle at now h.single)
            (All-cons IsSingle run (drop at now) one (All-drop IsSingle at now h.single)));
        consistent = rw (put, inserted)
            (consistent-filled (insert now at run) slots.blocks slots'.free room run.first x
            (consistent-inserted now slots.blocks slots'.free room at run consistent index other));
        within = h.within;
        next = h.next;
        index = rw (inserted, on run) (index-insert now at run index other);
      })

      pub added : IsPut rs room slots slots' draft draft' cursor cursor lba x run.kind
      added = record {
        contents = added-contents;
        editing = added-editing;
        same = λ other is _. let wrong = sym none ∙ is in cc;
      }

  -- the address is mapped
  module _ (run : Run) (is : run_at cursor.next lba ≡ Some run) where
    here : (cursor.index < length rs) × (slice_index_or rs cursor.index run ≡ run) × (run.start ≡ lba)
    here = found rs cursor.next cursor.index lba run h.next is

    there : (at < length now) × (slice_index_or now at run ≡ run)
    there = next-splice rs draft.records draft.from cursor.index (Some run)
        (omega (arith, h.within)) h.within.1 (here.0, here.1)

    pub slot-there : run.first < length slots.blocks
    slot-there = have_slots now slots.blocks slots.free room h.consistent at run there.0 there.1

    pub mapped-there : used_at (contents slots draft cursor) lba ≡ 1
    mapped-there =
        one_used (mapping_in slots.blocks) now at lba run h.consistent.sorted there.0 (sym there.1) here.2

    module _ (slots' : Slots) (draft' : Drafted) (x : Mapping) (kind : Kind) (cursor' : Cursor)
        (free : slots'.free ≡ slots.free)
        (put : slots'.blocks ≡ filled_slot slots.blocks run.first x) (kinds : kind ≡ kind_of x)
        (drafted : draft' ≡ pushed draft (with_kind kind run))
        (moved : cursor'.index ≡ cursor.index + 1) where
      abbrev new : Run
      new = with_kind kind run

      changed : edited rs draft' cursor' ≡ set now at new
      changed = rw (drafted, moved) (set-splice rs draft.records draft.from cursor.index new
          (omega (arith, h.within)) here.0)

      consistent' : IsConsistent (set now at new) slots.blocks slots.free room
      consistent' = consistent-kind now slots.blocks slots.free room at run kind h.consistent
          there.0 (sym there.1)

      single-there : run.count ≡ 1
      single-there = ap (λ (r : Run). r.count) (sym there.1)
          ∙ All-get_or IsSingle now at run there.0 h.single

      starts : draft'.from ≡ draft.from
      starts = ap (λ (d : Drafted). d.from) drafted

      index' : IsLowerBound (set now at new) (at + 1) (lba + 1)
      index' =
          let p = index-mapped now at lba run h.consistent.sorted h.index there.0 (sym there.1) here.2 in
          record {
            within = rw length-set p.within;
            before = λ j lt. rw (starts-kind now at run kind j (sym there.1) there.0) (p.before j lt);
            after = λ j le lt.
                rw (starts-kind now at run kind j (sym there.1) there.0)
                (p.after j le (rw length-set at lt));
          }

      over-contents : contents slots' draft' cursor' ≡ map.insert (contents slots draft cursor) lba x
      over-contents = rw (changed, put, kinds, sym here.2)
          (filled-changed now slots.blocks slots.free room at run x h.consistent there.0
          (sym there.1))

      over-editing : IsNext rs cursor'.index cursor'.next
          → IsEditing rs room slots' draft' cursor' (lba + 1)
      over-editing next = record {
        single = rw changed (All-set IsSingle now at new single-there h.single);
        consistent = rw (changed, put, free)
            (consistent-filled (set now at new) slots.blocks slots.free room run.first x consistent');
        within = (omega (arith, starts, moved, h.within), omega (arith, moved, here.0));
        next = next;
        index = rw (changed, drafted, on new) index';
      }

      -- an address that has the kind keeps its record
      over-same : (other : Run) → run_at cursor.next lba ≡ Some other → other.kind ≡ kind
          → edited rs draft' cursor' ≡ now
      over-same other found_there is_kind =
          let same : other ≡ run = ap (λ o. unwrap_or o run) (sym found_there ∙ is) in
          let kept = same-kind run kind (ap (λ (r : Run). r.kind) (sym same) ∙ is_kind) in
          rw (drafted, moved, kept)
          (same-splice rs draft.records draft.from cursor.index run here.0 (sym here.1))

      pub over : IsNext rs cursor'.index cursor'.next
          → IsPut rs room slots slots' draft draft' cursor cursor' lba x kind
      over next = record {
        contents = over-contents;
        editing = over-editing next;
        same = over-same;
      }
