-- What the calls on a file have made of it, and what a crash may leave. The newest call comes first.
use Rattle.std.specs.Prelude.{◌≡◌, ◌⊎◌, ◌≤◌, ℕ, ◌+◌, Bool, true, false, List, [], ◌∷◌, ◌++◌}
use Rattle.std.specs.Prelude.{length, take, drop, if◌then◌else◌}
use Rattle.sg_journal.specs.Device.{Torn, Cut}
use Rattle.sg_file.specs.Calls.{Call}
use Rattle.sg_file.specs.Calls.Call.{Read, Write, CutTo, Sync, BeginDraft, WriteDraft, Exchange}

-- A call that failed leaves what a read would return, as far as anybody knows.
abbrev pub if_ok : (ok : Bool) → (new old : List ℕ) → List ℕ
if_ok ok new old = if ok then new else old

-- The bytes of the draft.
abbrev pub draft : List Call → List ℕ
draft [] = []
draft (BeginDraft ok ∷ earlier) = if_ok ok [] (draft earlier)
draft (WriteDraft bytes ok ∷ earlier) = if_ok ok (draft earlier ++ bytes) (draft earlier)
draft (_ ∷ earlier) = draft earlier

-- The bytes of the file, if no crash comes.
abbrev pub seen : List Call → List ℕ
seen [] = []
seen (Read bytes ok ∷ earlier) = if_ok ok (seen earlier ++ bytes) (seen earlier)
seen (Write at bytes ok ∷ earlier) =
    if_ok ok (take at (seen earlier) ++ bytes ++ drop (at + length bytes) (seen earlier)) (seen earlier)
seen (CutTo len ok ∷ earlier) = if_ok ok (take len (seen earlier)) (seen earlier)
seen (Exchange ok ∷ earlier) = if_ok ok (draft earlier) (seen earlier)
seen (_ ∷ earlier) = seen earlier

-- A file is read before any other call.
abbrev pub AreReads : List Call → Type 0
AreReads [] = Unit
AreReads (Read bytes ok ∷ earlier) = AreReads earlier
AreReads (_ ∷ earlier) = ⊥

-- The bytes of the file when it was read.
abbrev pub opening : List Call → List ℕ
opening [] = []
opening (Read bytes ok ∷ earlier) = if_ok ok (opening earlier ++ bytes) (opening earlier)
opening (_ ∷ earlier) = opening earlier

-- A sync that succeeds leaves the bytes of the file alone.
abbrev pub left_by_sync : (ok : Bool) → (seen : List ℕ) → (before : List ℕ → Type 0) → List ℕ → Type 0
left_by_sync true seen before c = (c ≡ seen) × before c
left_by_sync false seen before c = before c

-- An exchange that succeeds leaves the draft alone, and one that fails may have put it there.
abbrev pub left_by_exchange : (ok : Bool) → (draft : List ℕ) → (before : List ℕ → Type 0) → List ℕ → Type 0
left_by_exchange true draft before c = c ≡ draft
left_by_exchange false draft before c = before c ⊎ (c ≡ draft)

-- What a crash at this moment may leave. A call that failed may have done its work, or a part of it.
abbrev pub may_leave : List Call → List ℕ → Type 0
may_leave [] c = c ≡ []
may_leave (Read bytes ok ∷ earlier) c = c ≡ seen (Read bytes ok ∷ earlier)
may_leave (Write at bytes ok ∷ earlier) c =
    (before : List ℕ) × may_leave earlier before × Torn at (length bytes) before c
may_leave (CutTo len ok ∷ earlier) c =
    (before : List ℕ) × may_leave earlier before × Cut len before c
may_leave (Sync ok ∷ earlier) c = left_by_sync ok (seen earlier) (may_leave earlier) c
may_leave (BeginDraft ok ∷ earlier) c = may_leave earlier c
may_leave (WriteDraft bytes ok ∷ earlier) c = may_leave earlier c
may_leave (Exchange ok ∷ earlier) c = left_by_exchange ok (draft earlier) (may_leave earlier) c

-- The number of calls after the file was read.
abbrev pub moment : List Call → ℕ
moment [] = 0
moment (Read bytes ok ∷ earlier) = moment earlier
moment (_ ∷ earlier) = moment earlier + 1

-- What a crash may have left since a moment after the file was read.
abbrev pub left_since : List Call → (since : ℕ) → List ℕ → Type 0
left_since [] since c = may_leave [] c
left_since (Read bytes ok ∷ earlier) since c = may_leave (Read bytes ok ∷ earlier) c
left_since (last ∷ earlier) since c =
    may_leave (last ∷ earlier) c ⊎ ((since ≤ moment earlier) × left_since earlier since c)

-- ---- Outcomes

abbrev pub has_succeeded : Call → Bool
has_succeeded (Read bytes ok) = ok
has_succeeded (Write at bytes ok) = ok
has_succeeded (CutTo len ok) = ok
has_succeeded (Sync ok) = ok
has_succeeded (BeginDraft ok) = ok
has_succeeded (WriteDraft bytes ok) = ok
has_succeeded (Exchange ok) = ok

-- How many calls have failed.
abbrev pub failures : List Call → ℕ
failures [] = 0
failures (last ∷ earlier) = failures earlier + (if has_succeeded last then 0 else 1)

-- ---- The model is not empty

-- A write begins in the file or at its end, and a cut leaves no more than there was.
abbrev pub IsSoundAfter : (seen : List ℕ) → Call → Type 0
IsSoundAfter seen (Write at bytes ok) = at ≤ length seen
IsSoundAfter seen (CutTo len ok) = len ≤ length seen
IsSoundAfter seen _ = Unit

abbrev pub AreSound : List Call → Type 0
AreSound [] = Unit
AreSound (last ∷ earlier) = IsSoundAfter (seen earlier) last × AreSound earlier

-- A program that is killed leaves what it has written: that is one of the outcomes.
abbrev pub WhatIsSeenMayStay : Type 0
WhatIsSeenMayStay = (calls : List Call) → AreSound calls → may_leave calls (seen calls)
