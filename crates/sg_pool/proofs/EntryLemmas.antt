-- The entries of the contents of records.
use Rattle.std.proofs.Common.{◌≡◌, ◌<◌, List, [], ◌∷◌, ◌++◌, arith, refl, sym, ap, ◌∙◌}
use Rattle.std.proofs.lemmas.List.{nil_from_length}
use Rattle.std.specs.Cmp.{nat_cmp_total, nat_cmp_is}
use Rattle.std.specs.FinMap as map
use Rattle.std.specs.FinMap.{entries, entries-insert, put, len-entries, len-empty}
use Rattle.std.specs.Ordering.{nat_cmp}
use Rattle.std.specs.declared.cmp.Ordering.TheVariants.{Less}
use Rattle.sg_store.specs.Disk.{Mapping}
use Rattle.sg_table.specs.Records.{IsSorted}
use Rattle.sg_table.specs.declared.run.Run.{Run}
use Rattle.sg_table.proofs.RecordLemmas.{sorted_tail}
use Rattle.sg_pool.specs.MappedRecords.{Seen, entries_by, contents_by}

put-first : (see : Seen Mapping) (x : Run) (xs : List Run) (v : Mapping) → IsSorted (x ∷ xs)
    → put nat_cmp x.start v (entries_by see xs) ≡ (x.start, v) ∷ entries_by see xs
put-first see x [] v rises = refl
put-first see x (y ∷ xs) v rises =
    let above : x.start < y.start = rises 0 1 (omega arith) (omega arith) in
    let less : Less ≡ nat_cmp x.start y.start = nat_cmp_is x.start y.start Less above in
    rw (sym less) refl

nothing : entries {X = Mapping} {R = nat_cmp} map.empty ≡ []
nothing = nil_from_length (entries {X = Mapping} {R = nat_cmp} map.empty)
    (sym (len-entries map.empty) ∙ len-empty nat_cmp Mapping)

-- sorted records have their entries in order
pub entries-sorted : (see : Seen Mapping) (rs : List Run) → IsSorted rs
    → entries (contents_by see rs) ≡ entries_by see rs
entries-sorted see [] rises = nothing
entries-sorted see (x ∷ xs) rises =
    entries-insert nat_cmp_total (contents_by see xs) x.start (see x.first x.kind)
    ∙ ap (put nat_cmp x.start (see x.first x.kind)) (entries-sorted see xs (sorted_tail x xs rises))
    ∙ put-first see x xs (see x.first x.kind) rises

pub entries-append : (see : Seen Mapping) (xs ys : List Run)
    → entries_by see (xs ++ ys) ≡ entries_by see xs ++ entries_by see ys
entries-append see [] ys = refl
entries-append see (x ∷ xs) ys =
    ap (λ es. (x.start, see x.first x.kind) ∷ es) (entries-append see xs ys)
