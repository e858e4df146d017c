-- What handing out a call does.
use Rattle.std.specs.Prelude.{◌≡◌, ◌<◌, ◌≤◌, ℕ, List, [], ◌∷◌, length, take, drop}
use Rattle.std.specs.Prelude.{Option, Some, None, Result, Ok, Err}
use Rattle.sg_file.specs.Calls.{Call, bytes_of}
use Rattle.sg_queue.specs.QueueFields.{QueueFields}
use Rattle.sg_queue.specs.QueuedCall.{call_as}
use Rattle.sg_queue.specs.declared.call.QueuedCall.{QueuedCall}
use Rattle.sg_queue.specs.declared.queue.TooShort.{TooShort}

-- A call is taken out of the calls that wait. Its bytes are at the beginning of the buffer.
pub record TakesOut (call : QueuedCall) (waiting left : List Call) (before after : List ℕ) : Type 0 where
  pub fits : call.length ≤ length after
  pub oldest : waiting ≡ call_as call (take call.length after) ∷ left
  pub length : call.length ≡ length (bytes_of (call_as call (take call.length after)))
  pub behind : drop call.length after ≡ drop call.length before

-- The oldest call that waits has more bytes than there is room for.
abbrev pub IsTooLong : (room : ℕ) → (waiting : List Call) → Type 0
IsTooLong room [] = ⊥
IsTooLong room (oldest ∷ _) = room < length (bytes_of oldest)

-- The calls that wait and a buffer, before and after a call is taken out.
abbrev pub Takes : (waiting left : List Call) → (before after : List ℕ)
    → Result (Option QueuedCall) TooShort → Type 0
Takes waiting left before after (Ok (Some call)) = TakesOut call waiting left before after
Takes waiting left before after (Ok None) = (waiting ≡ []) × (left ≡ []) × (after ≡ before)
Takes waiting left before after (Err _) =
    IsTooLong (length before) waiting × (left ≡ waiting) × (after ≡ before)

-- The calls that are made: a call that is handed out is one of them from then on.
abbrev pub made_after : Result (Option QueuedCall) TooShort → (made : List Call) → (after : List ℕ)
    → List Call
made_after (Ok (Some call)) made after = call_as call (take call.length after) ∷ made
made_after _ made after = made

-- A file and a buffer, before and after the file hands out a call.
pub record HandsOut (old new : QueueFields) (before after : List ℕ)
    (result : Result (Option QueuedCall) TooShort) : Type 0 where
  pub waiting : Takes old.waiting new.waiting before after result
  pub made : new.made ≡ made_after result old.made after
  pub refused : new.refused ≡ old.refused
