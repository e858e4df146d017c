-- The number of addresses of extents that have data.
use Rattle.std.proofs.Common.{◌≡◌, ℕ, ◌+◌, ◌≤◌, zero, suc, List, [], ◌∷◌, arith, refl, ap, ◌∙◌}
use Rattle.std.proofs.Common.{cond, length, length-append}
use Rattle.std.specs.List.{count_by}
use Rattle.sg_store.specs.Disk.{Mapping, data_count, has_data}
use Rattle.sg_table.specs.Records.{count_if_data, data_in, IsSorted}
use Rattle.sg_table.specs.declared.run.Kind.{Kind}
use Rattle.sg_table.specs.declared.run.Kind.TheVariants.{Data, Anchored}
use Rattle.sg_table.specs.declared.run.Run.{Run}
use Rattle.sg_table.proofs.DataLemmas.{data-within}
use Rattle.sg_pool.specs.MappedRecords.{contents_of, entries_by, mapping_in}
use Rattle.sg_extent_map.specs.Extents.{singles, singles_from, singles_of}
use Rattle.sg_extent_map.proofs.SinglesLemmas.{count-append, length-from, singles-more}
use Rattle.sg_extent_map.proofs.SinglesLemmas.{singles-none}
use Rattle.sg_store.proofs.DiskLemmas.{count-more}
use Rattle.sg_pool.proofs.EntryLemmas.{entries-append, entries-sorted}

abbrev count_data : List (ℕ × Mapping) → ℕ
count_data es = count_by (λ (e : ℕ × Mapping). has_data e.1) es

one : (bs : List (List ℕ)) (slot n : ℕ) (kind : Kind)
    → cond (has_data (mapping_in bs slot kind)) 1 0 + count_if_data kind n ≡ count_if_data kind (suc n)
one bs slot n Data = omega arith
one bs slot n Anchored = omega arith

none : (kind : Kind) → 0 ≡ count_if_data kind 0
none Data = refl
none Anchored = refl

data-from : (bs : List (List ℕ)) (start first n : ℕ) (kind : Kind)
    → count_data (entries_by (mapping_in bs) (singles_from start first n kind)) ≡ count_if_data kind n
unfolding singles_from
data-from bs start first zero kind = none kind
data-from bs start first (suc n) kind =
    let rest = data-from bs (start + 1) (first + 1) n kind in
    let more = count-more (λ (e : ℕ × Mapping). has_data e.1) (start, mapping_in bs first kind)
    (entries_by (mapping_in bs) (singles_from (start + 1) (first + 1) n kind)) in
    omega (arith, more, rest, one bs first n kind)

data-singles : (bs : List (List ℕ)) (rs : List Run)
    → count_data (entries_by (mapping_in bs) (singles rs)) ≡ data_in rs
data-singles bs [] = ap (λ xs. count_data (entries_by (mapping_in bs) xs)) (singles-none)
data-singles bs (run ∷ rs) =
    let rest = data-singles bs rs in
    let first = data-from bs run.start run.first run.count run.kind in
    let parts = ap (λ xs. count_data (entries_by (mapping_in bs) xs)) (singles-more run rs)
    ∙ ap count_data (entries-append (mapping_in bs) (singles_of run) (singles rs))
    ∙ count-append (λ (e : ℕ × Mapping). has_data e.1)
    (entries_by (mapping_in bs) (singles_of run)) (entries_by (mapping_in bs) (singles rs)) in
    omega (arith, parts, first, rest)

pub data-of-extents : (rs : List Run) (bs : List (List ℕ)) → IsSorted (singles rs)
    → data_count (contents_of (singles rs) bs) ≡ data_in rs
unfolding data_count
data-of-extents rs bs sorted =
    ap count_data (entries-sorted (mapping_in bs) (singles rs) sorted) ∙ data-singles bs rs

pub data-le : (rs : List Run) → data_in rs ≤ length (singles rs)
data-le [] = omega arith
data-le (run ∷ rs) =
    let len = ap length (singles-more run rs) ∙ length-append (singles_of run) (singles rs) in
    let one = length-from run.start run.first run.count run.kind in
    omega (arith, data-within run.kind run.count, data-le rs)
