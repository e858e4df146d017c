-- The number of addresses of runs that have data.
use Rattle.std.proofs.Common.{◌≡◌, ℕ, ◌+◌, ◌≤◌, zero, suc, List, [], ◌∷◌, arith, refl, ap, ◌∙◌}
use Rattle.std.proofs.Common.{cond}
use Rattle.std.proofs.lemmas.List.Sums.{sum_by-cons}
use Rattle.std.specs.List.{count_by}
use Rattle.std.specs.Prelude.{slice_index}
use Rattle.sg_store.specs.Disk.{Mapping, data_count, has_data}
use Rattle.sg_table.specs.Records.{count_if_data, data_in}
use Rattle.sg_table.specs.declared.run.Kind.{Kind}
use Rattle.sg_table.specs.declared.run.Kind.TheVariants.{Data, Anchored}
use Rattle.sg_table.specs.declared.run.Run.{Run}
use Rattle.sg_table.proofs.DataLemmas.{data-within}
use Rattle.sg_pool.specs.MappedRecords.{contents_of, entries_by, mapping_in}
use Rattle.sg_block_map.specs.Runs.{AreMaximal, blocks_of, expanded, singles, singles_of}
use Rattle.sg_block_map.proofs.ExpandedLemmas.{expanded-more, expanded-none}
use Rattle.sg_store.proofs.DiskLemmas.{count-more}
use Rattle.sg_block_map.proofs.GatheringLemmas.{count-append}
use Rattle.sg_pool.proofs.EntryLemmas.{entries-append, entries-sorted}
use Rattle.sg_block_map.proofs.MaximalLemmas.{maximal-expanded}

abbrev count_data : List (ℕ × Mapping) → ℕ
count_data es = count_by (λ (e : ℕ × Mapping). has_data e.1) es

one : (bs : List (List ℕ)) (slot n : ℕ) (kind : Kind)
    → cond (has_data (mapping_in bs slot kind)) 1 0 + count_if_data kind n ≡ count_if_data kind (suc n)
one bs slot n Data = omega arith
one bs slot n Anchored = omega arith

none : (kind : Kind) → 0 ≡ count_if_data kind 0
none Data = refl
none Anchored = refl

data-singles : (next : List ℕ) (bs : List (List ℕ)) (start first n : ℕ) (kind : Kind)
    → count_data (entries_by (mapping_in bs) (singles next start first n kind)) ≡ count_if_data kind n
unfolding singles
data-singles next bs start first zero kind = none kind
data-singles next bs start first (suc n) kind =
    let rest = data-singles next bs (start + 1) (slice_index next first) n kind in
    let more = count-more (λ (e : ℕ × Mapping). has_data e.1) (start, mapping_in bs first kind)
    (entries_by (mapping_in bs) (singles next (start + 1) (slice_index next first) n kind)) in
    omega (arith, more, rest, one bs first n kind)

data-expanded : (next : List ℕ) (bs : List (List ℕ)) (rs : List Run)
    → count_data (entries_by (mapping_in bs) (expanded next rs)) ≡ data_in rs
data-expanded next bs [] = ap (λ xs. count_data (entries_by (mapping_in bs) xs)) (expanded-none next)
data-expanded next bs (run ∷ rs) =
    let rest = data-expanded next bs rs in
    let first = data-singles next bs run.start run.first run.count run.kind in
    let parts = ap (λ xs. count_data (entries_by (mapping_in bs) xs)) (expanded-more next run rs)
    ∙ ap count_data (entries-append (mapping_in bs) (singles_of next run) (expanded next rs))
    ∙ count-append (λ (e : ℕ × Mapping). has_data e.1)
    (entries_by (mapping_in bs) (singles_of next run)) (entries_by (mapping_in bs) (expanded next rs)) in
    omega (arith, parts, first, rest)

pub data-of-runs : (next : List ℕ) (rs : List Run) (bs : List (List ℕ)) (a b : ℕ)
    → AreMaximal a b rs → data_count (contents_of (expanded next rs) bs) ≡ data_in rs
unfolding data_count
data-of-runs next rs bs a b h =
    ap count_data (entries-sorted (mapping_in bs) (expanded next rs) (maximal-expanded next rs a b h))
    ∙ data-expanded next bs rs

pub data-le : (rs : List Run) → data_in rs ≤ blocks_of rs
data-le [] = omega arith
data-le (run ∷ rs) = omega (arith, data-within run.kind run.count, data-le rs, blocks-more run rs)
  where
    blocks-more : (x : Run) (xs : List Run) → blocks_of (x ∷ xs) ≡ x.count + blocks_of xs
    blocks-more x xs = sum_by-cons (λ (r : Run). r.count) x xs
