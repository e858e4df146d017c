-- Blocks that are written over in the slots of a run.
use Rattle.std.proofs.Common.{◌≡◌, ℕ, ◌+◌, ◌-◌, ◌<◌, List, ◌∷◌, ◌++◌, length, set, arith, sym, ap}
use Rattle.std.proofs.Common.{◌∙◌, append_assoc, length-append, take, drop, subst}
use Rattle.std.proofs.Math.Seq.{get_or-append_seam}
use Rattle.std.specs.FinMap as map
use Rattle.sg_pool.specs.Chains.{chain, slot_after, AreBelow}
use Rattle.sg_store.specs.Disk.Mapping.{Data}
use Rattle.sg_table.specs.Draft.{Drafted}
use Rattle.sg_table.specs.Records.{single}
use Rattle.sg_pool.specs.MappedRecords.{contents_of}
use Rattle.sg_pool.specs.Slots.{Slots}
use Rattle.sg_pool.specs.MappedRecords.{IsConsistent}
use Rattle.sg_table.specs.declared.run.Kind.TheVariants.{Data as DataRun}
use Rattle.sg_table.specs.declared.run.Run.{Run}
use Rattle.sg_store.specs.Disk.{max_capacity}
use Rattle.sg_block_map.specs.Gathering.{AreGathered, end_index}
use Rattle.sg_block_map.specs.Walking.{AreAhead}
use Rattle.sg_block_map.specs.Runs.{singles, singles_of, expanded, AreRuns}
use Rattle.sg_pool.proofs.ConsistencyLemmas.{contents-over}
use Rattle.sg_block_map.proofs.FinishLemmas.{gathered-ahead}
use Rattle.sg_block_map.proofs.WalkLemmas.{ahead-first}
use Rattle.sg_block_map.proofs.ExpandedLemmas.{expanded-append, expanded-more, singles-append}
use Rattle.sg_block_map.proofs.ExpandedLemmas.{singles-one}

module _ (next : List ℕ) (before : List Run) (run : Run) (after : List Run) (k : ℕ)
    (lt : k < run.count) (is_data : run.kind ≡ DataRun) where
  abbrev slot : ℕ
  slot = slot_after next run.first k

  abbrev here : Run
  here = single (run.start + k) slot run.kind

  abbrev left : List Run
  left = expanded next before ++ singles next run.start run.first k run.kind

  abbrev right : List Run
  right = singles next (run.start + k + 1) (slot_after next slot 1) (run.count - (k + 1)) run.kind
      ++ expanded next after

  -- the addresses of the run, one of them apart
  singles-apart : singles_of next run ≡ singles next run.start run.first k run.kind ++ here ∷
      singles next (run.start + k + 1) (slot_after next slot 1) (run.count - (k + 1)) run.kind
  singles-apart =
      let m = run.count - (k + 1) in
      let e : k + (1 + m) ≡ run.count = omega arith in
      ap (λ n. singles next run.start run.first n run.kind) (sym e)
      ∙ singles-append next run.start run.first k (1 + m) run.kind
      ∙ ap (λ xs. singles next run.start run.first k run.kind ++ xs)
      (singles-append next (run.start + k) slot 1 m run.kind
      ∙ ap (λ xs. xs ++ singles next (run.start + k + 1) (slot_after next slot 1) m run.kind)
      (singles-one next (run.start + k) slot run.kind))

  apart : expanded next (before ++ run ∷ after) ≡ left ++ here ∷ right
  apart =
      let m = run.count - (k + 1) in
      let ks : List Run = singles next run.start run.first k run.kind in
      let ms : List Run = singles next (run.start + k + 1) (slot_after next slot 1) m run.kind in
      expanded-append next before (run ∷ after)
      ∙ ap (λ xs. expanded next before ++ xs) (expanded-more next run after
      ∙ ap (λ xs. xs ++ expanded next after) singles-apart
      ∙ append_assoc ks (here ∷ ms) (expanded next after))
      ∙ sym (append_assoc (expanded next before) ks (here ∷ right))

  pub over-contents : (bs : List (List ℕ)) (free : List ℕ) (room : ℕ) (b : List ℕ)
      → IsConsistent (expanded next (before ++ run ∷ after)) bs free room
      → contents_of (expanded next (before ++ run ∷ after)) (set bs slot b) ≡
      map.insert (contents_of (expanded next (before ++ run ∷ after)) bs) (run.start + k) (Data b)
  over-contents bs free room b h =
      let consistent = rw apart at h in
      let len = length-append left (here ∷ right) in
      rw apart (contents-over (left ++ here ∷ right) bs free room (length left) here b consistent
      (omega arith) (sym (get_or-append_seam left here right here)) is_data)

-- the first of the gathered runs has slots of the pool
pub first-below : (rs : List Run) (gathered : Drafted) (slots : Slots) (room low high : ℕ)
    (run : Run) (tail : List Run) → AreRuns rs slots room
    → AreGathered rs gathered low high (max_capacity + 1) → gathered.records ≡ run ∷ tail
    → AreBelow (length slots.next) (chain slots.next run.first run.count)
first-below rs gathered slots room low high run tail h g first =
    let ahead = gathered-ahead (take gathered.from rs) gathered.records
    (drop (end_index gathered) rs) slots room
    (subst (λ zs. AreRuns zs slots room) (sym g.same) h) in
    (ahead-first slots.next (length slots.next) 0 run tail
    (subst (AreAhead slots.next (length slots.next) 0) first ahead)).0
