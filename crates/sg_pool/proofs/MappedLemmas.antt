-- The slot and the kind at an address, by the records.
use Rattle.std.proofs.Common.{◌≡◌, ◌≢◌, ℕ, ◌+◌, ◌<◌, zero, suc, List, [], ◌∷◌, length, get_or}
use Rattle.std.proofs.Common.{arith, refl, sym, ap, ◌∙◌, Some, None, cond, Bool, true, false}
use Rattle.std.proofs.lemmas.Bool.{eqb-true}
use Rattle.std.specs.Prelude.{is_some, not, Option}
use Rattle.std.specs.Ordering.{nat_cmp, eq_by_cmp}
use Rattle.std.specs.Cmp.{nat_cmp_total, unsigned_tied}
use Rattle.std.specs.FinMap.{same_map, nat_cmp-IsAntisymmetric}
use Rattle.std.specs.FinMap.{find, get, get-from_entries, contains_key, len, len-insert, len-empty}
use Rattle.sg_store.specs.Disk.{Mapping, zero_block, block, data_in, lies_in}
use Rattle.sg_store.specs.Disk.{outside_range, unmapped, used_at}
use Rattle.sg_store.specs.LbaStatus.{status_at, status_in}
use Rattle.sg_wire.specs.declared.lba_status.ProvisioningStatus.TheVariants.{Deallocated}
use Rattle.sg_table.specs.Records.{start_of, IsSorted}
use Rattle.sg_pool.specs.MappedRecords.{Seen, entries_by, contents_by, contents_of, mapping_in}
use Rattle.sg_pool.specs.MappedRecords.{outside_records, status_of_kind}
use Rattle.sg_table.specs.declared.run.Kind.{Kind}
use Rattle.sg_table.specs.declared.run.Kind.TheVariants.{Data, Anchored}
use Rattle.sg_table.specs.declared.run.Run.{Run}
use Rattle.sg_store.proofs.DiskLemmas.{eq_other, eq_same}
use Rattle.sg_table.proofs.RecordLemmas.{start_of-read, sorted_tail}
use Rattle.sg_store.proofs.UnmapLemmas.{get-outside}

-- no record has the address
pub find-unmapped : {X : Type 0} (see : Seen X) (rs : List Run) (q : ℕ)
    → ((i : ℕ) → i < length rs → start_of rs i ≢ q) → find nat_cmp q (entries_by see rs) ≡ None
find-unmapped see [] q none = refl
find-unmapped see (r ∷ rs) q none =
    rw (eq_other q r.start (λ e. none 0 (omega arith) (sym e)))
    (find-unmapped see rs q (λ i h. none (suc i) (omega arith)))

-- a record has the address
pub find-mapped : {X : Type 0} (see : Seen X) (rs : List Run) (i : ℕ) (r : Run) → IsSorted rs
    → i < length rs → r ≡ get_or rs i r
    → find nat_cmp r.start (entries_by see rs) ≡ Some (see r.first r.kind)
find-mapped see [] i r rises h e = absurd (omega arith)
find-mapped see (x ∷ rs) zero r rises h e =
    rw (eq_same r.start x.start (ap (λ (y : Run). y.start) e))
    (ap (λ (y : Run). Some (see y.first y.kind)) (sym e))
find-mapped see (x ∷ rs) (suc i) r rises h e =
    let at : r.start ≡ start_of rs i = start_of-read rs i r (omega arith) e in
    let above : x.start < start_of rs i = rises 0 (suc i) (omega arith) (omega arith) in
    rw (eq_other r.start x.start (λ same. absurd (omega arith)))
    (find-mapped see rs i r (sorted_tail x rs rises) (omega arith) e)

-- the view of an address that no record has
pub get-unmapped : {X : Type 0} (see : Seen X) (rs : List Run) (q : ℕ)
    → ((i : ℕ) → i < length rs → start_of rs i ≢ q) → get (contents_by see rs) q ≡ None
get-unmapped see rs q none =
    get-from_entries nat_cmp_total (entries_by see rs) q ∙ find-unmapped see rs q none

-- and of one that a record has
pub get-mapped : {X : Type 0} (see : Seen X) (rs : List Run) (i : ℕ) (r : Run) → IsSorted rs
    → i < length rs → r ≡ get_or rs i r
    → get (contents_by see rs) r.start ≡ Some (see r.first r.kind)
get-mapped see rs i r rises h e =
    get-from_entries nat_cmp_total (entries_by see rs) r.start ∙ find-mapped see rs i r rises h e

-- records outside a range have the contents outside the range
kept-first : {X : Type 0} (same out now : Bool) (v rest : Option X) → (same ≡ true → out ≡ now)
    → cond out (cond same v (cond now rest None)) (cond now rest None)
    ≡ cond now (cond same v rest) None
kept-first true true now v rest h = rw (sym (h refl)) refl
kept-first true false now v rest h = rw (sym (h refl)) refl
kept-first false true now v rest h = refl
kept-first false false now v rest h = refl

find-either : {X : Type 0} (see : Seen X) (b : Bool) (r : Run) (rs : List Run) (q : ℕ)
    → find nat_cmp q (entries_by see (cond b (r ∷ rs) rs))
    ≡ cond b (find nat_cmp q (entries_by see (r ∷ rs))) (find nat_cmp q (entries_by see rs))
find-either see true r rs q = refl
find-either see false r rs q = refl

same_either_way : {X : Type 0} (b : Bool) (x : X) → x ≡ cond b x x
same_either_way true x = refl
same_either_way false x = refl

find-outside : {X : Type 0} (see : Seen X) (rs : List Run) (a k q : ℕ)
    → find nat_cmp q (entries_by see (outside_records rs a k))
    ≡ cond (not (lies_in a k q)) (find nat_cmp q (entries_by see rs)) None
find-outside see [] a k q = same_either_way (not (lies_in a k q)) None
find-outside see (r ∷ rs) a k q =
    let same = eq_by_cmp nat_cmp q r.start in
    let out = not (lies_in a k r.start) in
    let found = Some (see r.first r.kind) in
    find-either see out r (outside_records rs a k) q
    ∙ ap (λ o. cond out (cond same found o) o) (find-outside see rs a k q)
    ∙ kept-first same out (not (lies_in a k q)) found (find nat_cmp q (entries_by see rs))
    (λ e. ap (λ s. not (lies_in a k s))
    (sym (eqb-true q r.start (sym (unsigned_tied q r.start) ∙ e))))

pub contents-outside : {X : Type 0} (see : Seen X) (rs : List Run) (a k : ℕ)
    → contents_by see (outside_records rs a k) ≡ outside_range (contents_by see rs) a k
contents-outside see rs a k = same_map nat_cmp_total nat_cmp-IsAntisymmetric _ _ (λ q.
    get-from_entries nat_cmp_total (entries_by see (outside_records rs a k)) q
    ∙ find-outside see rs a k q
    ∙ ap (λ o. cond (not (lies_in a k q)) o None)
    (sym (get-from_entries nat_cmp_total (entries_by see rs) q))
    ∙ sym (get-outside (contents_by see rs) a k q))

pub contents-unmapped : (rs : List Run) (bs : List (List ℕ)) (a k : ℕ)
    → contents_of (outside_records rs a k) bs ≡ unmapped (contents_of rs bs) a k
unfolding unmapped
contents-unmapped rs bs a k = contents-outside (mapping_in bs) rs a k

pub contains-unmapped : {X : Type 0} (see : Seen X) (rs : List Run) (q : ℕ)
    → ((i : ℕ) → i < length rs → start_of rs i ≢ q) → contains_key (contents_by see rs) q ≡ false
contains-unmapped see rs q none = ap is_some (get-unmapped see rs q none)

pub contains-mapped : {X : Type 0} (see : Seen X) (rs : List Run) (i : ℕ) (r : Run) → IsSorted rs
    → i < length rs → r ≡ get_or rs i r → contains_key (contents_by see rs) r.start ≡ true
contains-mapped see rs i r rises h e = ap is_some (get-mapped see rs i r rises h e)

pub one_used : (see : Seen Mapping) (rs : List Run) (i a : ℕ) (r : Run) → IsSorted rs
    → i < length rs → r ≡ get_or rs i r → r.start ≡ a → used_at (contents_by see rs) a ≡ 1
one_used see rs i a r rises h e is =
    ap (λ (b : Bool). cond b 1 0) (ap (contains_key (contents_by see rs)) (sym is)
    ∙ contains-mapped see rs i r rises h e)

pub none_used : (see : Seen Mapping) (rs : List Run) (a : ℕ)
    → ((i : ℕ) → i < length rs → start_of rs i ≢ a) → used_at (contents_by see rs) a ≡ 0
none_used see rs a none = ap (λ (b : Bool). cond b 1 0) (contains-unmapped see rs a none)

-- a record for each address that has a slot
pub len-contents_by : (see : Seen Mapping) (rs : List Run) → IsSorted rs
    → len (contents_by see rs) ≡ length rs
len-contents_by see [] rises = len-empty nat_cmp Mapping
len-contents_by see (r ∷ rs) rises =
    let none : contains_key (contents_by see rs) r.start ≡ false =
    contains-unmapped see rs r.start
    (λ i h e. let up : r.start < start_of rs i = rises 0 (suc i) (omega arith) (omega arith) in
    absurd (omega arith)) in
    let rest = len-contents_by see rs (sorted_tail r rs rises) in
    len-insert nat_cmp_total (contents_by see rs) r.start (see r.first r.kind)
    ∙ ap (λ (b : Bool). cond b (len (contents_by see rs)) (len (contents_by see rs) + 1)) none
    ∙ omega arith

-- ---- The block and the status at an address

pub block-unmapped : (rs : List Run) (bs : List (List ℕ)) (q : ℕ)
    → ((i : ℕ) → i < length rs → start_of rs i ≢ q) → block (contents_of rs bs) q ≡ zero_block
block-unmapped rs bs q none = ap data_in (get-unmapped (mapping_in bs) rs q none)

pub block-mapped : (rs : List Run) (bs : List (List ℕ)) (i : ℕ) (r : Run) → IsSorted rs
    → i < length rs → r ≡ get_or rs i r
    → block (contents_of rs bs) r.start ≡ data_in (Some (mapping_in bs r.first r.kind))
block-mapped rs bs i r rises h e = ap data_in (get-mapped (mapping_in bs) rs i r rises h e)

pub status-unmapped : (rs : List Run) (bs : List (List ℕ)) (q : ℕ)
    → ((i : ℕ) → i < length rs → start_of rs i ≢ q)
    → status_at (contents_of rs bs) q ≡ Deallocated
status-unmapped rs bs q none = ap status_in (get-unmapped (mapping_in bs) rs q none)

pub status-seen : (bs : List (List ℕ)) (slot : ℕ) (kind : Kind)
    → status_in (Some (mapping_in bs slot kind)) ≡ status_of_kind kind
status-seen bs slot Data = refl
status-seen bs slot Anchored = refl

pub status-mapped : (rs : List Run) (bs : List (List ℕ)) (i : ℕ) (r : Run) → IsSorted rs
    → i < length rs → r ≡ get_or rs i r
    → status_at (contents_of rs bs) r.start ≡ status_of_kind r.kind
status-mapped rs bs i r rises h e = ap status_in (get-mapped (mapping_in bs) rs i r rises h e)
    ∙ status-seen bs r.first r.kind
