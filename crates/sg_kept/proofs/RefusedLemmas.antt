-- What is true of a file that is not opened.
use Rattle.std.proofs.Common.{◌≡◌, ℕ, List, [], ◌∷◌, ◌++◌, length, Option, Some, None, Ok, Err, take, drop}
use Rattle.std.proofs.Common.{refl, sym, ap, subst, ◌+◌, ◌∙◌, arith, append_assoc}
use Rattle.std.proofs.lemmas.List.{take-append-drop, length-drop}
use Rattle.std.specs.Option.{option_map}
use Rattle.std.specs.Prelude.{option_and_then, Result, IfErr}
use Rattle.std.specs.Result.{IsErrAnd}
use Rattle.sg_changes.specs.FirstRecord.{NewDiskFields, first_record, new_disk_kept}
use Rattle.sg_changes.specs.KeptFields.{KeptFields}
use Rattle.sg_changes.specs.Replay.{IsDamagedAt, replayed}
use Rattle.sg_changes.proofs.ReplayLemmas.{replayed_append, step_none}
use Rattle.sg_journal.specs.Journal.{Found, IsHead, after, batches, found}
use Rattle.sg_journal.specs.Reading.{IsPlace}
use Rattle.sg_journal.specs.declared.journal.Tail.{Tail}
use Rattle.sg_journal.specs.declared.journal.Tail.TheVariants.{Unmade, Torn, Closed, Waiting}
use Rattle.sg_kept.specs.declared.opening.OpenDiskError.{OpenDiskError}
use Rattle.sg_kept.specs.declared.opening.OpenDiskError.TheVariants.{Memory, Device, File, Unmade as NotMade}
use Rattle.sg_kept.specs.declared.opening.OpenDiskError.TheVariants.{Damaged, TooLong}
use Rattle.sg_kept.specs.Kept.{restored}
use Rattle.sg_kept.specs.Opened.{begun, filed, opened, opened_of, replayed_all}
use Rattle.sg_kept.specs.Refused.{BeginsWith, HasDamage, IsDamagedAfter, IsDamagedBehind, IsNoDisk, IsOfBytes}
use Rattle.sg_kept.specs.Refused.{IsTrueOf, IsTrueOfFirst}

-- ---- What a file begins with

after-nothing : (f : Found) → f ≡ after [] f
after-nothing (Ok bs) = refl
after-nothing (Err fault) = refl

from-head : (file head behind rest : List ℕ) (sector : ℕ) (bs : List (List ℕ)) → file ≡ head ++ behind
    → IsHead sector head bs → (others : Found) × (found (file ++ rest) ≡ after bs others)
from-head file head behind rest sector bs is whole = (
  batches sector (length head) (behind ++ rest),
  ap (λ (l : List ℕ). found (l ++ rest)) is ∙ ap found (append_assoc head behind rest)
      ∙ whole.stands (behind ++ rest),
)

pub begins : (ended : Option Tail) (taken : List ℕ) (left sector end : ℕ) (bs : List (List ℕ))
    → IsPlace ended taken left sector end bs → BeginsWith taken left bs
begins None taken left sector end bs place rest size =
    (batches sector (length taken) rest, place.whole.stands rest)
begins (Some Torn) taken left sector end bs place rest size =
    from-head taken place.head place.behind rest sector bs place.is place.whole
begins (Some Closed) taken left sector end bs place rest size =
    from-head taken place.head (place.gate ++ place.rest) rest sector bs place.is place.whole
begins (Some (Waiting written)) taken left sector end bs place rest size = absurd place
begins (Some Unmade) taken left sector end bs place rest size = (
  found (taken ++ rest),
  subst (λ (l : List (List ℕ)). found (taken ++ rest) ≡ after l (found (taken ++ rest)))
      (sym place.unmade.nothing) (after-nothing (found (taken ++ rest))),
)

-- ---- A damaged record

damaged-none : (bytes : List ℕ) (kept : KeptFields) (offset : ℕ) → IsDamagedAt bytes kept offset
    → replayed bytes kept ≡ None
damaged-none bytes kept offset d =
    ap (λ (l : List ℕ). replayed l kept) (sym (take-append-drop offset bytes))
    ∙ replayed_append (take offset bytes) (drop offset bytes) kept d.before d.sound
    ∙ step_none (drop offset bytes) d.before
    (λ none. let size : length (drop offset bytes) + offset ≡ length bytes =
    omega (arith, length-drop offset bytes, d.within) in omega (arith, none, size, d.within))
    d.damaged

begun-none : (o : Option (NewDiskFields × List ℕ)) (offset : ℕ) → IsDamagedAfter o offset
    → option_and_then (λ read. replayed read.1 (new_disk_kept read.0)) o ≡ None
begun-none None offset d = refl
begun-none (Some read) offset d = damaged-none read.1 (new_disk_kept read.0) d.0 d.2

then-none : (mid more : List (List ℕ)) (left : KeptFields) (o : Option KeptFields)
    → ((k : KeptFields) → replayed_all mid k ≡ Some left → replayed_all more k ≡ None)
    → option_and_then (replayed_all mid) o ≡ Some left → option_and_then (replayed_all more) o ≡ None
then-none mid more left None each e = absurd cc
then-none mid more left (Some k) each e = each k e

all-none : (mid : List (List ℕ)) (batch : List ℕ) (more : List (List ℕ)) (left : KeptFields)
    → replayed batch left ≡ None → (k : KeptFields) → replayed_all mid k ≡ Some left
    → replayed_all ((mid ++ batch ∷ []) ++ more) k ≡ None
all-none [] batch more left none k e =
    let is : k ≡ left = cc in
    ap (option_and_then (replayed_all more)) (ap (replayed batch) is ∙ none)
all-none (c ∷ mid) batch more left none k e =
    then-none mid ((mid ++ batch ∷ []) ++ more) left (replayed c k) (all-none mid batch more left none) e

filed-none : (before : List (List ℕ)) (batch : List ℕ) (offset : ℕ) (more : List (List ℕ))
    → IsDamagedBehind before batch offset → filed ((before ++ batch ∷ []) ++ more) ≡ None
unfolding begun
filed-none [] batch offset more d =
    ap (option_and_then (replayed_all more)) (begun-none (first_record.at batch) offset d)
filed-none (first ∷ mid) batch offset more d =
    then-none mid ((mid ++ batch ∷ []) ++ more) d.0 (begun first)
    (all-none mid batch more d.0 (damaged-none batch d.0 offset d.2)) d.1

opened-none : (before : List (List ℕ)) (batch : List ℕ) (offset : ℕ) (others : Found)
    → IsDamagedBehind before batch offset → opened_of (after (before ++ batch ∷ []) others) ≡ None
opened-none before batch offset (Ok more) d = ap (option_map restored) (filed-none before batch offset more d)
opened-none before batch offset (Err fault) d = refl

-- ---- What errors of the calls say

pub err-and : {T E : Type 0} (r : Result T E) (Q P : E → Type 0) → ((e : E) → Q e → P e)
    → IsErrAnd r Q → IfErr r P
err-and (Ok x) Q P each q = tt
err-and (Err e) Q P each q = each e q

pub first-says : (e : OpenDiskError) (batch taken : List ℕ) (left : ℕ)
    → BeginsWith taken left (batch ∷ []) → IsTrueOfFirst batch e → IsTrueOf e taken left
first-says Memory batch taken left begins says = tt
first-says Device batch taken left begins says = absurd says
first-says TooLong batch taken left begins says = absurd says
first-says (File fault) batch taken left begins says = absurd says
first-says NotMade batch taken left begins says = absurd says
first-says (Damaged index offset) batch taken left begins says = record {
  before = [];
  batch = batch;
  begins = begins;
  place = sym says.0;
  damaged = says.1;
}

pub rest-says : (before : List (List ℕ)) (batch taken : List ℕ) (left index offset : ℕ) (kept : KeptFields)
    → BeginsWith taken left (before ++ batch ∷ []) → length before ≡ index → filed before ≡ Some kept
    → IsDamagedAt batch kept offset → HasDamage taken left index offset
rest-says [] batch taken left index offset kept begins place files damaged = absurd cc
rest-says (first ∷ mid) batch taken left index offset kept begins place files damaged = record {
  before = first ∷ mid;
  batch = batch;
  begins = begins;
  place = place;
  damaged = (kept, files, damaged);
}

-- ---- A file that an error is true of is no disk

pub no-disk : (e : OpenDiskError) (taken : List ℕ) (left : ℕ) → IsTrueOf e taken left → IsOfBytes e
    → IsNoDisk taken left
unfolding opened
no-disk Memory taken left says of rest size = absurd of
no-disk Device taken left says of rest size = absurd of
no-disk TooLong taken left says of rest size = absurd of
no-disk (File fault) taken left says of rest size = ap opened_of (says rest size)
no-disk NotMade taken left says of rest size = ap opened_of (says rest size)
no-disk (Damaged batch offset) taken left says of rest size =
    let begins = says.begins rest size in
    ap opened_of begins.1 ∙ opened-none says.before says.batch offset begins.0 says.damaged
