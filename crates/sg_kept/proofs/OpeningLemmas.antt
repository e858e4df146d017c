-- A disk whose file was made or opened a moment ago.
use Rattle.std.proofs.Common.{◌≡◌, inl, inr, ⊎_elim, ℕ, Bool, true, false, cond, List, [], ◌∷◌, ◌++◌}
use Rattle.std.proofs.Common.{length, Option, Some, None, Ok}
use Rattle.std.proofs.Common.{refl, sym, ap, subst, ◌∙◌, arith, eqb}
use Rattle.std.proofs.lemmas.List.{append-nil}
use Rattle.std.specs.Option.{option_map_or}
use Rattle.std.specs.Prelude.{option_and_then}
use Rattle.sg_changes.specs.FirstRecord.{NewDiskFields, disk_fields, first_record, is_new_disk, new_disk}
use Rattle.sg_changes.specs.FirstRecord.{disk_with_tag, new_disk_kept}
use Rattle.sg_changes.specs.Format.{◌>>=◌, made, passing}
use Rattle.sg_changes.specs.KeptFields.{KeptFields}
use Rattle.sg_changes.specs.Laws.{FirstRecordsAreExact}
use Rattle.sg_changes.specs.Replay.{replayed}
use Rattle.sg_journal.specs.Device.{LeavesOnly}
use Rattle.sg_journal.specs.Journal.{found, IsBeforeOrAfter}
use Rattle.sg_journal.specs.JournalState.{HasBatches}
use Rattle.sg_target.specs.Armed.{Armed}
use Rattle.sg_target.specs.State.{IsWithinLimits}
use Rattle.sg_target.specs.Target.{disk_of}
use Rattle.sg_units.specs.PowerOn.{after_power_on}
use Rattle.sg_units.specs.declared.registrations.Registration.{Registration}
use Rattle.sg_units.specs.declared.reservation.Reservation.{Reservation}
use Rattle.sg_units.specs.declared.reservation_state.ReservationState.{ReservationState}
use Rattle.sg_kept.specs.declared.disk.KeptDisk.{KeptDisk}
use Rattle.sg_kept.specs.Kept.{kept, powered, restored}
use Rattle.sg_kept.specs.Opened.{IsBeforeOr, begun, filed, replayed_all}
use Rattle.sg_kept.specs.Opening.{HasStarted}
use Rattle.sg_kept.specs.Recording.{longest_write}
use Rattle.sg_kept.proofs.MomentsLemmas.{weaker}
use Rattle.sg_kept.proofs.OpenedLemmas.{opened-is, opened-same, replayed-nil, with-last}

-- ---- The first record

passed : {X : Type 0} (b : Bool) (x : X) (f : X → Bool)
    → option_map_or f (cond b (Some x) None) false ≡ true → b ≡ true
passed true x f e = refl
passed false x f e = e

-- a first record is one of a disk that can be made
pub new-possible : (d : NewDiskFields) → first_record.is_possible d ≡ true → is_new_disk d ≡ true
unfolding new_disk
new-possible d possible = passed (is_new_disk d) d disk_fields.is_possible possible

pub begun-new : FirstRecordsAreExact → (d : NewDiskFields) → first_record.is_possible d ≡ true
    → begun (first_record.bytes d) ≡ Some (new_disk_kept d)
unfolding begun
begun-new law d possible =
    ap (option_and_then (λ read. replayed read.1 (new_disk_kept read.0)))
    (ap first_record.at (sym (append-nil (first_record.bytes d))) ∙ law.reads_back d [] possible)
    ∙ replayed-nil (new_disk_kept d)

-- a first batch leaves what its other records make of the new disk
pub begun-read : (first rest : List ℕ) (d : NewDiskFields) (k after : KeptFields)
    → first_record.at first ≡ Some (d, rest) → k ≡ new_disk_kept d → replayed rest k ≡ Some after
    → begun first ≡ Some after
unfolding begun
begun-read first rest d k after read is r =
    ap (option_and_then (λ read. replayed read.1 (new_disk_kept read.0))) read
    ∙ ap (replayed rest) (sym is) ∙ r

tested : (x : NewDiskFields × List ℕ) (d : NewDiskFields) (rest : List ℕ) (b : Bool) → is_new_disk x.0 ≡ b
    → made (λ y. y) (cond b (Some x.0) None >>= λ y. Some (y, x.1)) ≡ Some (d, rest) → is_new_disk d ≡ true
tested x d rest true f e =
    let is : x.0 ≡ d = cc in subst (λ y. is_new_disk y ≡ true) is f
tested x d rest false f e = absurd cc

of-fields : (o : Option (NewDiskFields × List ℕ)) (d : NewDiskFields) (rest : List ℕ)
    → made (λ y. y) (o >>= λ x. passing is_new_disk x.0 >>= λ y. Some (y, x.1)) ≡ Some (d, rest)
    → is_new_disk d ≡ true
of-fields None d rest e = absurd cc
of-fields (Some x) d rest e = tested x d rest (is_new_disk x.0) refl e

of-tag : (b : Bool) (bytes : List ℕ) (d : NewDiskFields) (rest : List ℕ)
    → cond b (made (λ y. y) (new_disk.at bytes)) None ≡ Some (d, rest) → is_new_disk d ≡ true
unfolding new_disk
of-tag true bytes d rest e = of-fields (disk_fields.at bytes) d rest e
of-tag false bytes d rest e = absurd cc

-- a disk that was read can be made
pub read-new : (first rest : List ℕ) (d : NewDiskFields) → first_record.at first ≡ Some (d, rest)
    → is_new_disk d ≡ true
unfolding disk_with_tag
read-new [] rest d e = absurd cc
read-new (tag ∷ bytes) rest d e = of-tag (eqb tag 9) bytes d rest e

-- what was added to an empty sink that has a number before its bytes
pub added-first : (a s : ℕ) (new old bytes : List ℕ) → a ∷ new ≡ (s ∷ old) ++ bytes → old ≡ []
    → new ≡ bytes
added-first a s new old bytes added empty =
    let e : new ≡ old ++ bytes = cc in e ∙ ap (λ l. l ++ bytes) empty

-- ---- After power on

twice : (rs : List Registration) (held : Option Reservation) (n : ℕ) (b : Bool)
    → let r : ReservationState = record {
      registrations = rs;
      reservation = held;
      generation = n;
      persists_through_power_loss = b;
    } in
    after_power_on (after_power_on r) ≡ after_power_on r
twice rs held n true = refl
twice rs held n false = refl

reservations-twice : (r : ReservationState) → after_power_on (after_power_on r) ≡ after_power_on r
reservations-twice r = twice r.registrations r.reservation r.generation r.persists_through_power_loss

pub powered-restored : (k : KeptFields) → powered (restored k) ≡ restored k
powered-restored k =
    let new : Armed = restored k in
    ap (λ r. record new { state = record new.state { reservations = r } }) (reservations-twice k.reservations)

kept-restored : (k : KeptFields) → after_power_on k.reservations ≡ k.reservations → kept (restored k) ≡ k
kept-restored k same =
    ap (λ r. record k { reservations = r }) (reservations-twice k.reservations ∙ same)

-- ---- The disk

-- a file that stands for what a new target has
pub started : {S D : Type 0} (seen : D → List ℕ) (may_leave : D → List ℕ → Type 0) (disk : KeptDisk S D)
    (bs : List (List ℕ)) (left : KeptFields) → HasBatches seen may_leave disk.journal bs []
    → filed bs ≡ Some left → after_power_on left.reservations ≡ left.reservations
    → disk_of disk.target ≡ restored left → IsWithinLimits disk.target.state
    → disk.batch.records ≡ [] → disk.batch.sector ≡ disk.journal.sector
    → length disk.scratch.items ≡ longest_write → disk.is_dead ≡ false
    → HasStarted seen may_leave disk
started seen may_leave disk bs left stands files same is limits none sector scratch alive =
    let no_bytes : length disk.batch.records ≡ 0 = ap length none in
    record {
      alive = alive;
      usable = record {
        kept = record {
          batches = bs;
          waiting = [];
          stands = stands;
          left = left;
          files = files;
          waits = with-last [] disk.batch.records left left none refl
              ∙ ap Some (sym (ap kept is ∙ kept-restored left same));
          sector = sector;
          limits = limits;
        };
        room = omega (arith, no_bytes);
        scratch = scratch;
      };
      opened = opened-is (seen disk.journal.device) bs left stands.found files ∙ ap Some (sym is);
      powered = ap powered is ∙ powered-restored left ∙ sym is;
    }

pub filed-one : (first : List ℕ) (left : KeptFields) → begun first ≡ Some left
    → filed (first ∷ []) ≡ Some left
filed-one first left e = ap (option_and_then (replayed_all [])) e

-- what a crash of the call that makes a file left
unmade-or : (before first : List ℕ) (left : KeptFields) (disk : Armed) → found before ≡ Ok []
    → begun first ≡ Some left → disk ≡ restored left
    → (file : List ℕ) → IsBeforeOrAfter [] (first ∷ []) file → IsBeforeOr before disk file
unmade-or before first left disk f e is file here =
    ⊎_elim (λ was. inl (opened-same file before (was ∙ sym f)))
    (λ now. inr (opened-is file (first ∷ []) left now (filed-one first left e)
    ∙ ap Some (sym (ap powered is ∙ powered-restored left))))
    here

-- a crash at any moment of that call
pub unmade-leaves : {D : Type 0} (moment : D → ℕ) (left_since : D → ℕ → List ℕ → Type 0) (old new : D)
    (before first : List ℕ) (left : KeptFields) → found before ≡ Ok [] → begun first ≡ Some left
    → LeavesOnly moment left_since old new (IsBeforeOrAfter [] (first ∷ []))
    → LeavesOnly moment left_since old new (IsBeforeOr before (restored left))
unmade-leaves moment left_since old new before first left f e leaves =
    weaker moment left_since old new (IsBeforeOrAfter [] (first ∷ []))
    (IsBeforeOr before (restored left)) leaves
    (unmade-or before first left (restored left) f e refl)
