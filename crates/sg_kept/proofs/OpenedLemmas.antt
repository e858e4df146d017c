-- What batches leave, and what opening their file finds.
use Rattle.std.proofs.Common.{◌≡◌, inl, inr, ⊎_elim, ℕ, List, [], ◌∷◌, ◌++◌, Option, Some, None, Ok, false}
use Rattle.std.proofs.Common.{length, refl, sym, ap, subst, ◌∙◌}
use Rattle.std.specs.Option.{option_map}
use Rattle.std.specs.Prelude.{option_and_then}
use Rattle.sg_changes.specs.KeptFields.{KeptFields}
use Rattle.sg_changes.specs.Replay.{replayed}
use Rattle.sg_journal.specs.Device.{LeavesOnly}
use Rattle.sg_journal.specs.Journal.{found, IsBeforeOrAfter}
use Rattle.sg_journal.specs.BatchValue.{BatchValue}
use Rattle.sg_journal.specs.JournalState.{HasBatches, HasTail, IsMade, has_waiting, is_waiting}
use Rattle.sg_journal.specs.declared.journal.Tail.{Tail}
use Rattle.sg_journal.specs.declared.journal.Tail.TheVariants.{Unmade, Torn, Closed, Waiting}
use Rattle.sg_journal.specs.declared.journal.Journal.{Journal}
use Rattle.sg_target.specs.Armed.{Armed}
use Rattle.sg_target.specs.State.{IsWithinLimits}
use Rattle.sg_kept.specs.Disk.{IsKept}
use Rattle.sg_kept.specs.Kept.{kept, powered, restored}
use Rattle.sg_kept.specs.Opened.{IsBeforeOr, batch_count, begun, count_of, filed, opened, opened_of}
use Rattle.sg_kept.specs.Opened.{replayed_all}
use Rattle.sg_kept.proofs.MomentsLemmas.{no-call, weaker}

-- ---- One batch more

pub all-after : (bs : List (List ℕ)) (b : List ℕ) (left : Option KeptFields)
    → ((k : KeptFields) → replayed_all (bs ++ b ∷ []) k ≡ option_and_then (replayed b) (replayed_all bs k))
    → option_and_then (replayed_all (bs ++ b ∷ [])) left
    ≡ option_and_then (replayed b) (option_and_then (replayed_all bs) left)
all-after bs b None each = refl
all-after bs b (Some k) each = each k

last : (b : List ℕ) (left : Option KeptFields) → option_and_then (replayed_all []) left ≡ left
last b None = refl
last b (Some k) = refl

pub all-push : (bs : List (List ℕ)) (b : List ℕ) (k : KeptFields)
    → replayed_all (bs ++ b ∷ []) k ≡ option_and_then (replayed b) (replayed_all bs k)
all-push [] b k = last b (replayed b k)
all-push (c ∷ bs) b k = all-after bs b (replayed c k) (all-push bs b)

filed-more : (bs : List (List ℕ)) (b : List ℕ) (left : KeptFields) → filed bs ≡ Some left
    → filed (bs ++ b ∷ []) ≡ option_and_then (replayed b) (filed bs)
filed-more [] b left e = cc
filed-more (first ∷ bs) b left e = all-after bs b (begun first) (all-push bs b)

pub filed-push : (bs : List (List ℕ)) (b : List ℕ) (left after : KeptFields) → filed bs ≡ Some left
    → replayed b left ≡ Some after → filed (bs ++ b ∷ []) ≡ Some after
filed-push bs b left after e r =
    filed-more bs b left e ∙ ap (option_and_then (replayed b)) e ∙ r

-- ---- More batches

after-all : (bs ws : List (List ℕ)) (left : Option KeptFields)
    → ((k : KeptFields) → replayed_all (bs ++ ws) k ≡ option_and_then (replayed_all ws) (replayed_all bs k))
    → option_and_then (replayed_all (bs ++ ws)) left
    ≡ option_and_then (replayed_all ws) (option_and_then (replayed_all bs) left)
after-all bs ws None each = refl
after-all bs ws (Some k) each = each k

all-append : (bs ws : List (List ℕ)) (k : KeptFields)
    → replayed_all (bs ++ ws) k ≡ option_and_then (replayed_all ws) (replayed_all bs k)
all-append [] ws k = refl
all-append (b ∷ bs) ws k = after-all bs ws (replayed b k) (all-append bs ws)

pub filed-all : (bs ws : List (List ℕ)) (left after : KeptFields) → filed bs ≡ Some left
    → replayed_all ws left ≡ Some after → filed (bs ++ ws) ≡ Some after
filed-all [] ws left after e r = absurd cc
filed-all (first ∷ bs) ws left after e r =
    after-all bs ws (begun first) (all-append bs ws) ∙ ap (option_and_then (replayed_all ws)) e ∙ r

-- ---- Opening

pub opened-is : (file : List ℕ) (bs : List (List ℕ)) (left : KeptFields) → found file ≡ Ok bs
    → filed bs ≡ Some left → opened file ≡ Some (restored left)
unfolding opened
opened-is file bs left f e = ap opened_of f ∙ ap (option_map restored) e

pub opened-same : (f g : List ℕ) → found f ≡ found g → opened f ≡ opened g
unfolding opened
opened-same f g e = ap opened_of e

pub batch_count-is : (file : List ℕ) (bs : List (List ℕ)) (n : ℕ) → found file ≡ Ok bs → length bs ≡ n
    → batch_count file ≡ Some n
unfolding batch_count
batch_count-is file bs n f e = ap count_of f ∙ ap Some e

-- the batches from before, or the others too, which lead to what is kept of a disk
pub before-or : (before : List ℕ) (bs ws : List (List ℕ)) (left : KeptFields) (disk : Armed)
    → restored (kept disk) ≡ powered disk
    → found before ≡ Ok bs → filed bs ≡ Some left → replayed_all ws left ≡ Some (kept disk)
    → (file : List ℕ) → IsBeforeOrAfter bs ws file → IsBeforeOr before disk file
before-or before bs ws left disk same f e r file here =
    ⊎_elim (λ was. inl (opened-same file before (was ∙ sym f)))
    (λ now. inr (opened-is file (bs ++ ws) (kept disk) now (filed-all bs ws left (kept disk) e r)
    ∙ ap Some same))
    here

-- what one call has left, and another after it
pub before-on : (before mid : List ℕ) (disk : Armed) → IsBeforeOr before disk mid
    → (file : List ℕ) → IsBeforeOr mid disk file → IsBeforeOr before disk file
before-on before mid disk first file here =
    ⊎_elim (λ same. ⊎_elim (λ was. inl (same ∙ was)) (λ now. inr (same ∙ now)) first) inr here

-- ---- A file and what waits

pub replayed-nil : (k : KeptFields) → replayed [] k ≡ Some k
unfolding replayed
replayed-nil k = refl

some-same : (b : List ℕ) (o : Option KeptFields) (k : KeptFields) → b ≡ []
    → option_and_then (replayed b) o ≡ Some k → o ≡ Some k
some-same b None k none e = absurd cc
some-same b (Some m) k none e =
    sym (replayed-nil m) ∙ ap (λ (l : List ℕ). replayed l m) (sym none) ∙ e

-- a batch without records leaves what the batches before it leave
pub without-last : (ws : List (List ℕ)) (b : List ℕ) (left k : KeptFields) → b ≡ []
    → replayed_all (ws ++ b ∷ []) left ≡ Some k → replayed_all ws left ≡ Some k
without-last ws b left k none e =
    some-same b (replayed_all ws left) k none (sym (all-push ws b left) ∙ e)

pub with-last : (ws : List (List ℕ)) (b : List ℕ) (left k : KeptFields) → b ≡ []
    → replayed_all ws left ≡ Some k → replayed_all (ws ++ b ∷ []) left ≡ Some k
with-last ws b left k none e =
    all-push ws b left ∙ ap (option_and_then (replayed b)) e
    ∙ ap (λ (l : List ℕ). replayed l k) none ∙ replayed-nil k

module _ {D : Type 0} (seen : D → List ℕ) (may_leave : D → List ℕ → Type 0) (old new : Journal D)
    (b : BatchValue) (disk : Armed) (s : IsKept seen may_leave old b disk) where
  -- what waited counts now
  module _ (ws : List (List ℕ)) (leads : replayed_all ws s.left ≡ Some (kept disk)) where
    pub kept-flushed : HasBatches seen may_leave new (s.batches ++ ws) [] → (after : BatchValue)
        → after.records ≡ [] → after.sector ≡ new.sector → IsKept seen may_leave new after disk
    kept-flushed stands after none sector = record {
      batches = s.batches ++ ws;
      waiting = [];
      stands = stands;
      left = kept disk;
      files = filed-all s.batches ws s.left (kept disk) s.files leads;
      waits = with-last [] after.records (kept disk) (kept disk) none refl;
      sector = sector;
      limits = s.limits;
    }

    pub opened-flushed : HasBatches seen may_leave new (s.batches ++ ws) []
        → restored (kept disk) ≡ powered disk → opened (seen new.device) ≡ Some (powered disk)
    opened-flushed stands same =
        opened-is (seen new.device) (s.batches ++ ws) (kept disk) stands.found
        (filed-all s.batches ws s.left (kept disk) s.files leads)
        ∙ ap Some same

    -- a crash at any moment of the call that makes it count
    pub moments-flushed : (moment : D → ℕ) (left_since : D → ℕ → List ℕ → Type 0) (device : D)
        → restored (kept disk) ≡ powered disk
        → LeavesOnly moment left_since old.device device (IsBeforeOrAfter s.batches ws)
        → LeavesOnly moment left_since old.device device (IsBeforeOr (seen old.device) disk)
    moments-flushed moment left_since device same leaves =
        weaker moment left_since old.device device (IsBeforeOrAfter s.batches ws)
        (IsBeforeOr (seen old.device) disk) leaves
        (before-or (seen old.device) s.batches ws s.left disk same s.stands.found s.files leads)

  -- one more batch waits in the file
  pub kept-waiting : (after : BatchValue)
      → HasBatches seen may_leave new s.batches (s.waiting ++ b.records ∷ [])
      → after.records ≡ [] → after.sector ≡ new.sector → IsKept seen may_leave new after disk
  kept-waiting after stands none sector = record {
    batches = s.batches;
    waiting = s.waiting ++ b.records ∷ [];
    stands = stands;
    left = s.left;
    files = s.files;
    waits = with-last (s.waiting ++ b.records ∷ []) after.records s.left (kept disk) none s.waits;
    sector = sector;
    limits = s.limits;
  }

-- no call, on a file that stands for batches
pub untouched : {D : Type 0} (seen : D → List ℕ) (may_leave : D → List ℕ → Type 0) (moment : D → ℕ)
    (left_since : D → ℕ → List ℕ → Type 0) (journal : Journal D) (bs ws : List (List ℕ)) (disk : Armed)
    → HasBatches seen may_leave journal bs ws
    → ((c : List ℕ) → left_since journal.device (moment journal.device) c → may_leave journal.device c)
    → LeavesOnly moment left_since journal.device journal.device (IsBeforeOr (seen journal.device) disk)
untouched seen may_leave moment left_since journal bs ws disk s now =
    no-call moment left_since (may_leave journal.device) journal.device
    (IsBeforeOr (seen journal.device) disk)
    (λ c left. inl (opened-same c (seen journal.device) (s.crash c left ∙ sym s.found))) now

-- nothing waits in the file
none-waits-at : (tail : Tail) (sector end : ℕ) (file : List ℕ) (bs ws : List (List ℕ))
    → HasTail tail sector end file bs ws → is_waiting tail ≡ false → ws ≡ []
none-waits-at Unmade sector end file bs ws here not = here.1
none-waits-at Torn sector end file bs ws here not = here.1
none-waits-at Closed sector end file bs ws here not = here.1
none-waits-at (Waiting written) sector end file bs ws here not = absurd cc

pub none-waits : {D : Type 0} (seen : D → List ℕ) (may_leave : D → List ℕ → Type 0) (journal : Journal D)
    (bs ws : List (List ℕ)) → HasBatches seen may_leave journal bs ws → has_waiting journal ≡ false
    → ws ≡ []
none-waits seen may_leave journal bs ws s not =
    none-waits-at journal.tail journal.sector journal.end (seen journal.device) bs ws s.tail not

-- a file with a disk was made
pub kept-made : {D : Type 0} (seen : D → List ℕ) (may_leave : D → List ℕ → Type 0) (journal : Journal D)
    (b : BatchValue) (disk : Armed) → IsKept seen may_leave journal b disk → IsMade journal
kept-made seen may_leave journal b disk s unmade =
    let tail = subst (λ t. HasTail t journal.sector journal.end (seen journal.device) s.batches s.waiting)
    unmade s.stands.tail in
    let none : filed [] ≡ Some s.left = ap filed (sym tail.0.nothing) ∙ s.files in
    absurd cc

then-leads : (b c : List ℕ) (o : Option KeptFields) (x y : KeptFields)
    → ((m : KeptFields) → replayed b m ≡ Some x → replayed c m ≡ Some y)
    → option_and_then (replayed b) o ≡ Some x → option_and_then (replayed c) o ≡ Some y
then-leads b c None x y each e = absurd cc
then-leads b c (Some m) x y each e = each m e

-- records that were added lead to another disk
pub kept-on : {D : Type 0} (seen : D → List ℕ) (may_leave : D → List ℕ → Type 0) (journal : Journal D)
    (b added : BatchValue) (disk after : Armed) → IsKept seen may_leave journal b disk
    → ((left : KeptFields) → replayed b.records left ≡ Some (kept disk)
    → replayed added.records left ≡ Some (kept after))
    → added.sector ≡ b.sector → IsWithinLimits after.state
    → IsKept seen may_leave journal added after
kept-on seen may_leave journal b added disk after s leads sector limits = record {
  batches = s.batches;
  waiting = s.waiting;
  stands = s.stands;
  left = s.left;
  files = s.files;
  waits =
      all-push s.waiting added.records s.left
      ∙ then-leads b.records added.records (replayed_all s.waiting s.left) (kept disk) (kept after) leads
      (sym (all-push s.waiting b.records s.left) ∙ s.waits);
  sector = sector ∙ s.sector;
  limits = limits;
}
