-- The effect of a write of one block on the contents.
use Rattle.std.proofs.Common.{◌≡◌, ◌≢◌, ℕ, ◌<◌, ◌≤◌, zero, suc, List, [], ◌∷◌, length, get_or, set}
use Rattle.std.proofs.Common.{arith, refl, sym, ap, ap₂, ◌∙◌, Some, cond, Bool, true, false, eq-eqb}
use Rattle.std.proofs.Common.{get_or-set_other, get_or-set_same}
use Rattle.std.specs.Prelude.{insert}
use Rattle.std.specs.Ordering.{nat_cmp, eq_by_cmp, is_eq}
use Rattle.std.specs.declared.cmp.Ordering.TheVariants.{Less, Equal, Greater}
use Rattle.std.specs.Cmp.{nat_cmp_total}
use Rattle.std.specs.FinMap as map
use Rattle.std.specs.FinMap.{find, from_entries, get-from_entries, get-insert, same_map}
use Rattle.std.specs.FinMap.{nat_cmp-IsAntisymmetric}
use Rattle.sg_store.specs.Disk.{Mapping, zero_block}
use Rattle.sg_store.specs.Disk.Mapping.{Data}
use Rattle.sg_table.specs.Records.{start_of, IsSorted, slots_of, with_kind}
use Rattle.sg_pool.specs.MappedRecords.{Seen, entries_by, contents_by, mapping_in}
use Rattle.sg_table.specs.declared.run.Kind.{Kind}
use Rattle.sg_table.specs.declared.run.Kind.TheVariants.{Data as DataKind, Anchored as AnchoredKind}
use Rattle.sg_table.specs.Occurrences.{one_if_equal, occurrences}
use Rattle.sg_table.specs.declared.run.Run.{Run}
use Rattle.sg_table.proofs.RecordLemmas.{start_of-read, sorted_tail}
use Rattle.sg_table.proofs.OccurrenceLemmas.{not_equal, occurrences-at}

abbrev Entries : Type 0
Entries = List (ℕ × Mapping)

-- entries that differ at one address make disks that differ there
pub one_put : (es fs : Entries) (a : ℕ) (b : Mapping)
    → ((q : ℕ) → find nat_cmp q fs ≡ cond (eq_by_cmp nat_cmp q a) (Some b) (find nat_cmp q es))
    → from_entries {R = nat_cmp} fs ≡ map.insert (from_entries es) a b
one_put es fs a b h = same_map nat_cmp_total nat_cmp-IsAntisymmetric _ _ (λ q.
    get-from_entries nat_cmp_total fs q ∙ h q
    ∙ sym (get-insert nat_cmp_total (from_entries es) a b q
    ∙ ap (cond (eq_by_cmp nat_cmp q a) (Some b)) (get-from_entries nat_cmp_total es q)))

twice : {A : Type 0} (c : Bool) (x y z : A) → cond c x z ≡ cond c x (cond c y z)
twice true x y z = refl
twice false x y z = refl

-- two tests that do not both pass go in either order
pub either : {A : Type 0} (c d : Bool) (x y z : A) → (c ≡ true → d ≡ true → ⊥)
    → cond c x (cond d y z) ≡ cond d y (cond c x z)
either true true x y z apart = absurd (apart refl refl)
either true false x y z apart = refl
either false d x y z apart = refl

pub same_at : (q x : ℕ) → eq_by_cmp nat_cmp q x ≡ true → q ≡ x
same_at q x = elim (nat_cmp q x) as (λ r. nat_cmp q x ≡ r → is_eq r ≡ true → q ≡ x) [
  | Less ↦ λ _ h. cc
  | Equal ↦ λ e _. nat_cmp-IsAntisymmetric q x e
  | Greater ↦ λ _ h. cc
] refl

both_at : (q x a : ℕ) → x ≢ a → eq_by_cmp nat_cmp q x ≡ true → eq_by_cmp nat_cmp q a ≡ true → ⊥
both_at q x a ne p r = ne (sym (same_at q x p) ∙ same_at q a r)

-- Other slots show the same.
abbrev pub AreSameBut : (s : ℕ) → Seen Mapping → Seen Mapping → Type 0
AreSameBut s f g = (t : ℕ) (kind : Kind) → t ≢ s → g t kind ≡ f t kind

-- a slot that no record has
pub entries-same : (f g : Seen Mapping) (rs : List Run) (s : ℕ) → occurrences s (slots_of rs) ≡ 0
    → AreSameBut s f g → entries_by g rs ≡ entries_by f rs
unfolding occurrences
entries-same f g [] s none same = refl
entries-same f g (r ∷ rs) s none same =
    let other : r.first ≢ s = not_equal s r.first (omega arith) in
    ap₂ (λ x xs. (r.start, x) ∷ xs) (same r.first r.kind other)
    (entries-same f g rs s (omega arith) same)

-- record i has another kind, and its slot shows something different
pub find-changed : (f g : Seen Mapping) (rs : List Run) (i : ℕ) (r : Run) (kind : Kind) (q : ℕ)
    → IsSorted rs → i < length rs → r ≡ get_or rs i r → AreSameBut r.first f g
    → occurrences r.first (slots_of rs) ≤ 1
    → find nat_cmp q (entries_by g (set rs i (with_kind kind r)))
    ≡ cond (eq_by_cmp nat_cmp q r.start) (Some (g r.first kind)) (find nat_cmp q (entries_by f rs))
unfolding occurrences
find-changed f g [] i r kind q rises h e same once = absurd (omega arith)
find-changed f g (x ∷ rs) zero r kind q rises h e same once =
    let slot : x.first ≡ r.first = ap (λ (y : Run). y.first) (sym e) in
    let start : x.start ≡ r.start = ap (λ (y : Run). y.start) (sym e) in
    let one : one_if_equal r.first x.first ≡ 1 =
    ap (λ (c : Bool). cond c 1 0) (eq-eqb x.first r.first slot) in
    let none : occurrences r.first (slots_of rs) ≡ 0 = omega arith in
    ap (λ xs. cond (eq_by_cmp nat_cmp q r.start) (Some (g r.first kind)) (find nat_cmp q xs))
    (entries-same f g rs r.first none same)
    ∙ twice (eq_by_cmp nat_cmp q r.start) (Some (g r.first kind)) (Some (f x.first x.kind)) _
    ∙ ap (λ k. cond (eq_by_cmp nat_cmp q r.start) (Some (g r.first kind))
    (cond (eq_by_cmp nat_cmp q k) (Some (f x.first x.kind)) (find nat_cmp q (entries_by f rs))))
    (sym start)
find-changed f g (x ∷ rs) (suc i) r kind q rises h e same once =
    let some = occurrences-at rs i r (omega arith) e in
    let other : x.first ≢ r.first = not_equal r.first x.first (omega arith) in
    let at : r.start ≡ start_of rs i = start_of-read rs i r (omega arith) e in
    let above : x.start < start_of rs i = rises 0 (suc i) (omega arith) (omega arith) in
    let apart : x.start ≢ r.start = λ s. absurd (omega arith) in
    ap₂ (λ v o. cond (eq_by_cmp nat_cmp q x.start) (Some v) o) (same x.first x.kind other)
    (find-changed f g rs i r kind q (sorted_tail x rs rises) (omega arith) e same (omega arith))
    ∙ either _ _ _ _ _ (both_at q x.start r.start apart)

-- one more record, at an address that no record had
pub find-added : {X : Type 0} (see : Seen X) (rs : List Run) (i : ℕ) (r : Run) (q : ℕ)
    → ((j : ℕ) → j < length rs → start_of rs j ≢ r.start)
    → find nat_cmp q (entries_by see (insert rs i r)) ≡
    cond (eq_by_cmp nat_cmp q r.start) (Some (see r.first r.kind)) (find nat_cmp q (entries_by see rs))
find-added see rs zero r q none = refl
find-added see [] (suc i) r q none = refl
find-added see (x ∷ rs) (suc i) r q none =
    ap (cond (eq_by_cmp nat_cmp q x.start) (Some (see x.first x.kind)))
    (find-added see rs i r q (λ j h. none (suc j) (omega arith)))
    ∙ either _ _ _ _ _ (both_at q x.start r.start (none 0 (omega arith)))

pub changed : (f g : Seen Mapping) (rs : List Run) (i : ℕ) (r : Run) (kind : Kind) → IsSorted rs
    → i < length rs → r ≡ get_or rs i r → AreSameBut r.first f g
    → occurrences r.first (slots_of rs) ≤ 1
    → contents_by g (set rs i (with_kind kind r)) ≡ map.insert (contents_by f rs) r.start (g r.first kind)
changed f g rs i r kind rises h e same once =
    one_put (entries_by f rs) (entries_by g (set rs i (with_kind kind r))) r.start (g r.first kind)
    (λ q. find-changed f g rs i r kind q rises h e same once)

pub added : (f g : Seen Mapping) (rs : List Run) (i : ℕ) (r : Run)
    → ((j : ℕ) → j < length rs → start_of rs j ≢ r.start) → AreSameBut r.first f g
    → occurrences r.first (slots_of rs) ≡ 0
    → contents_by g (insert rs i r) ≡ map.insert (contents_by f rs) r.start (g r.first r.kind)
added f g rs i r none same free =
    one_put (entries_by f rs) (entries_by g (insert rs i r)) r.start (g r.first r.kind) (λ q.
    find-added g rs i r q none
    ∙ ap (λ es. cond (eq_by_cmp nat_cmp q r.start) (Some (g r.first r.kind)) (find nat_cmp q es))
    (entries-same f g rs r.first free same))

-- only the block of one slot changes
pub seen-set : (bs : List (List ℕ)) (s : ℕ) (b : List ℕ)
    → AreSameBut s (mapping_in bs) (mapping_in (set bs s b))
seen-set bs s b t DataKind other = ap Data (get_or-set_other bs s t b zero_block other)
seen-set bs s b t AnchoredKind other = refl

-- which is seen as it was set
pub data-set : (bs : List (List ℕ)) (s : ℕ) (b : List ℕ) → s < length bs
    → mapping_in (set bs s b) s DataKind ≡ Data b
data-set bs s b low = ap Data (get_or-set_same bs s b zero_block low)
