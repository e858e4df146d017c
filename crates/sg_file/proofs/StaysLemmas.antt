-- What a file has is one of the contents that a crash may leave.
use Rattle.std.proofs.Common.{inl, ℕ, ◌+◌, ◌≤◌, true, false, List, [], ◌∷◌, ◌++◌}
use Rattle.std.proofs.Common.{length, take, drop, refl, ◌∙◌, ap, arith, length-append}
use Rattle.std.proofs.Common.{length-drop}
use Rattle.std.proofs.Common.{append_assoc}
use Rattle.std.proofs.lemmas.List.{take_all, take_at, drop_at, length-take-le}
use Rattle.sg_journal.specs.Device.{Torn, Cut}
use Rattle.sg_file.specs.Calls.{Call}
use Rattle.sg_file.specs.Calls.Call.{Read, Write, CutTo, Sync, BeginDraft, WriteDraft, Exchange}
use Rattle.sg_file.specs.History.{seen, may_leave, AreSound}

torn_none : (at n : ℕ) (old : List ℕ) → Torn at n old old
torn_none at n old = record {
  before = refl;
  behind = refl;
  no_shorter = omega arith;
  no_longer = omega arith;
}

torn_all : (at : ℕ) (bytes old : List ℕ) → at ≤ length old
    → Torn at (length bytes) old (take at old ++ bytes ++ drop (at + length bytes) old)
torn_all at bytes old within = let size = length-take-le at old within in record {
  before =
      ap (λ (l : List ℕ). take at l) (append_assoc (take at old) bytes (drop (at + length bytes) old))
      ∙ take_at (take at old) (bytes ++ drop (at + length bytes) old) at size;
  behind =
      drop_at (take at old ++ bytes) (drop (at + length bytes) old) (at + length bytes)
      (omega (arith, length-append (take at old) bytes, size));
  no_shorter = omega (
    arith,
    length-append (take at old ++ bytes) (drop (at + length bytes) old),
    length-append (take at old) bytes,
    size,
    length-drop (at + length bytes) old,
  );
  no_longer = omega (
    arith,
    length-append (take at old ++ bytes) (drop (at + length bytes) old),
    length-append (take at old) bytes,
    size,
    length-drop (at + length bytes) old,
  );
}

cut_none : (at : ℕ) (old : List ℕ) → at ≤ length old → Cut at old old
cut_none at old within = record { no_shorter = within; front = take_all (length old) old (omega arith) }

cut_all : (at : ℕ) (old : List ℕ) → at ≤ length old → Cut at old (take at old)
cut_all at old within = let size = length-take-le at old within in
    record { no_shorter = omega (arith, size); front = ap (λ (n : ℕ). take n old) size }

pub stays : (calls : List Call) → AreSound calls → may_leave calls (seen calls)
stays [] sound = refl
stays (Read bytes ok ∷ h) sound = refl
stays (Write at bytes true ∷ h) sound =
    (seen h, stays h sound.1, torn_all at bytes (seen h) sound.0)
stays (Write at bytes false ∷ h) sound =
    (seen h, stays h sound.1, torn_none at (length bytes) (seen h))
stays (CutTo len true ∷ h) sound = (seen h, stays h sound.1, cut_all len (seen h) sound.0)
stays (CutTo len false ∷ h) sound = (seen h, stays h sound.1, cut_none len (seen h) sound.0)
stays (Sync true ∷ h) sound = (refl, stays h sound.1)
stays (Sync false ∷ h) sound = stays h sound.1
stays (BeginDraft ok ∷ h) sound = stays h sound.1
stays (WriteDraft bytes ok ∷ h) sound = stays h sound.1
stays (Exchange true ∷ h) sound = refl
stays (Exchange false ∷ h) sound = inl (stays h sound.1)
