-- Records that are added one after another.
use Rattle.std.proofs.Common.{◌≡◌, ℕ, ◌<◌, ◌+◌, Bool, true, false, ◌&&◌, List, [], ◌∷◌, ◌++◌, map, take}
use Rattle.std.proofs.Common.{get_or, length}
use Rattle.std.proofs.Common.{refl, sym, ap, subst, ◌∙◌, append_assoc}
use Rattle.std.proofs.lemmas.List.{append-nil, map-append, take_more}
use Rattle.std.proofs.lemmas.List.Folds.{list_all-append}
use Rattle.std.proofs.lemmas.Grind.{flat_map-append}
use Rattle.std.specs.List.{flat_map, list_all}
use Rattle.std.proofs.Common.{Some}
use Rattle.sg_changes.specs.Change.{Change, applied_all}
use Rattle.sg_changes.specs.KeptFields.{KeptFields}
use Rattle.sg_changes.specs.Laws.{RecordsAreReplayed}
use Rattle.sg_changes.specs.Records.{is_possible, record_of}
use Rattle.sg_changes.specs.Replay.{replayed}
use Rattle.sg_journal.specs.BatchValue.{BatchValue}
use Rattle.sg_kept.specs.Recording.{Adds}

abbrev with_records : BatchValue → List ℕ → BatchValue
with_records b records = record b { records = records }

pub adds-none : (b : BatchValue) → Adds b b []
adds-none b = record { added = ap (with_records b) (sym (append-nil b.records)); possible = refl }

both : (a b : Bool) → a ≡ true → b ≡ true → (a && b) ≡ true
both true b e f = f
both false b e f = e

pub adds-more : (a b c : BatchValue) (xs ys : List Change) → Adds a b xs → Adds b c ys
    → Adds a c (xs ++ ys)
adds-more a b c xs ys first second = record {
  added =
      second.added ∙ ap (λ (m : BatchValue). with_records m (m.records ++ flat_map record_of ys)) first.added
      ∙ ap (with_records a) (append_assoc a.records (flat_map record_of xs) (flat_map record_of ys)
      ∙ ap (λ (l : List ℕ). a.records ++ l) (sym (flat_map-append record_of xs ys)));
  possible =
      list_all-append is_possible xs ys
      ∙ both (list_all is_possible xs) (list_all is_possible ys) first.possible second.possible;
}

-- one change more, of a list whose changes are added in turn
pub adds-one-more : {A : Type 0} (f : A → Change) (items : List A) (i : ℕ) (x : A) (a b c : BatchValue)
    → i < length items → get_or items i x ≡ x
    → Adds a b (map f (take i items)) → Adds b c (f x ∷ [])
    → Adds a c (map f (take (i + 1) items))
adds-one-more f items i x a b c within item first second =
    subst (Adds a c)
    (sym (ap (map f) (take_more items i x within ∙ ap (λ y. take i items ++ y ∷ []) item)
    ∙ map-append f (take i items) (x ∷ [])))
    (adds-more a b c (map f (take i items)) (f x ∷ []) first second)

-- records that were added lead on by their changes
pub replay-adds : RecordsAreReplayed → (a b : BatchValue) (changes : List Change) (left k after : KeptFields)
    → Adds a b changes → replayed a.records left ≡ Some k → applied_all k changes ≡ Some after
    → replayed b.records left ≡ Some after
replay-adds law a b changes left k after adds waits makes =
    ap (λ (m : BatchValue). replayed m.records left) adds.added
    ∙ law.joined a.records (flat_map record_of changes) left k waits
    ∙ law.all changes k adds.possible ∙ makes
