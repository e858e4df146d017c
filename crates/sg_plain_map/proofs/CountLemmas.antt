-- The number of addresses with data, if each record has one address.
use Rattle.std.proofs.Common.{◌≡◌, ℕ, ◌+◌, ◌≤◌, List, [], ◌∷◌, length, arith, refl, sym}
use Rattle.std.proofs.Common.{ap, ap₂, ◌∙◌, cond}
use Rattle.std.proofs.lemmas.List.Elements.{All-head, All-tail}
use Rattle.std.proofs.lemmas.List.Sums.{sum_by-cons}
use Rattle.std.specs.List.{count_by}
use Rattle.sg_store.specs.Disk.{Mapping, data_count, has_data}
use Rattle.sg_pool.specs.MappedRecords.{entries_by, contents_of, mapping_in}
use Rattle.sg_table.specs.Records.{IsSorted, count_if_data, data_in}
use Rattle.sg_table.specs.declared.run.Kind.{Kind}
use Rattle.sg_table.specs.declared.run.Kind.TheVariants.{Data, Anchored}
use Rattle.sg_table.specs.declared.run.Run.{Run}
use Rattle.sg_table.proofs.DataLemmas.{data-within}
use Rattle.sg_pool.proofs.EntryLemmas.{entries-sorted}
use Rattle.sg_plain_map.specs.Editing.{AreSingle, IsSingle}

count-one : (bs : List (List ℕ)) (slot : ℕ) (kind : Kind)
    → cond {A = ℕ} (has_data (mapping_in bs slot kind)) 1 0 ≡ count_if_data kind 1
count-one bs slot Data = refl
count-one bs slot Anchored = refl

count-entries : (bs : List (List ℕ)) (rs : List Run) → AreSingle rs
    → count_by (λ (e : ℕ × Mapping). has_data e.1) (entries_by (mapping_in bs) rs) ≡ data_in rs
count-entries bs [] single = refl
count-entries bs (x ∷ xs) single =
    let one = count-one bs x.first x.kind
    ∙ ap (count_if_data x.kind) (sym (All-head IsSingle x xs single)) in
    sum_by-cons (λ (e : ℕ × Mapping). cond {A = ℕ} (has_data e.1) 1 0)
    (x.start, mapping_in bs x.first x.kind) (entries_by (mapping_in bs) xs)
    ∙ ap₂ (λ m n. m + n) one (count-entries bs xs (All-tail IsSingle x xs single))

pub data-of-records : (rs : List Run) (bs : List (List ℕ)) → IsSorted rs → AreSingle rs
    → data_count (contents_of rs bs) ≡ data_in rs
unfolding data_count
data-of-records rs bs rises single =
    ap (count_by (λ (e : ℕ × Mapping). has_data e.1)) (entries-sorted (mapping_in bs) rs rises)
    ∙ count-entries bs rs single

pub data-le : (rs : List Run) → AreSingle rs → data_in rs ≤ length rs
data-le [] single = omega arith
data-le (x ∷ xs) single = omega (
  arith,
  data-within x.kind x.count,
  All-head IsSingle x xs single,
  data-le xs (All-tail IsSingle x xs single),
)
