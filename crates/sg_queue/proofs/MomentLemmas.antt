-- Calls that wait are moments to come.
use Rattle.std.proofs.Common.{inr, ap, ◌≡◌, ◌∙◌, ◌≤◌, ℕ, Bool, List, [], ◌∷◌, ◌++◌, reverse, arith}
use Rattle.std.proofs.Common.{append_assoc}
use Rattle.std.proofs.lemmas.List.{reverse-append}
use Rattle.sg_file.specs.Calls.{Call}
use Rattle.sg_file.specs.Calls.Call.{Read, Write, CutTo, Sync, BeginDraft, WriteDraft, Exchange}
use Rattle.sg_file.specs.History.{left_since, moment}
use Rattle.sg_file.specs.Moments.{counts_now}
use Rattle.sg_queue.specs.Moments.{AreWrites, IsWrite, WaitingCallsAreMoments}
use Rattle.sg_queue.specs.QueuedCall.{call_of_kind}
use Rattle.sg_queue.specs.Waiting.{waiting}
use Rattle.sg_queue.specs.declared.call.CallKind.{CallKind}
use Rattle.sg_queue.specs.declared.call.CallKind.TheVariants as kinds
use Rattle.sg_queue.specs.declared.call.QueuedCall.{QueuedCall}

-- The file may have been left like that since.
abbrev Counts : (calls : List Call) (since : ℕ) (c : List ℕ) → Type 0
Counts calls since c = (since ≤ moment calls) × left_since calls since c

one_more : (call : Call) (made : List Call) (since : ℕ) (c : List ℕ) → IsWrite call → Counts made since c
    → Counts (call ∷ made) since c
one_more (Read bytes ok) made since c write was = absurd write
one_more (Write at bytes ok) made since c write was = (omega (arith, was.0), inr was)
one_more (CutTo len ok) made since c write was = (omega (arith, was.0), inr was)
one_more (Sync ok) made since c write was = (omega (arith, was.0), inr was)
one_more (BeginDraft ok) made since c write was = (omega (arith, was.0), inr was)
one_more (WriteDraft bytes ok) made since c write was = (omega (arith, was.0), inr was)
one_more (Exchange ok) made since c write was = (omega (arith, was.0), inr was)

-- The newest call comes first.
more : (calls made : List Call) (since : ℕ) (c : List ℕ) → AreWrites calls → Counts made since c
    → Counts (calls ++ made) since c
more [] made since c writes was = was
more (call ∷ earlier) made since c writes was =
    one_more call (earlier ++ made) since c writes.0 (more earlier made since c writes.1 was)

reversed : (call : Call) (later made : List Call)
    → reverse (call ∷ later) ++ made ≡ reverse later ++ call ∷ made
reversed call later made =
    ap (λ (l : List Call). l ++ made) (reverse-append (call ∷ []) later)
    ∙ append_assoc (reverse later) (call ∷ []) made

-- The oldest call comes first.
more_later : (calls made : List Call) (since : ℕ) (c : List ℕ) → AreWrites calls → Counts made since c
    → Counts (reverse calls ++ made) since c
more_later [] made since c writes was = was
more_later (call ∷ later) made since c writes was =
    rw (reversed call later made)
    (more_later later (call ∷ made) since c writes.1 (one_more call made since c writes.0 was))

pub moments : WaitingCallsAreMoments
moments file read since le c left =
    rw (append_assoc file.refused (reverse file.waiting) file.made)
    (more file.refused (reverse file.waiting ++ file.made) since c read.1
    (more_later file.waiting file.made since c read.0 (le, counts_now file.made since c left))).1

-- ---- No call of the queue reads the file.

pub is_write : (kind : CallKind) (place : ℕ) (bytes : List ℕ) (ok : Bool)
    → IsWrite (call_of_kind kind place bytes ok)
is_write kinds.Write place bytes ok = tt
is_write kinds.Cut place bytes ok = tt
is_write kinds.Sync place bytes ok = tt
is_write kinds.BeginDraft place bytes ok = tt
is_write kinds.WriteDraft place bytes ok = tt
is_write kinds.Exchange place bytes ok = tt

pub are_writes : (calls : List QueuedCall) (bytes : List ℕ) → AreWrites (waiting calls bytes)
are_writes [] bytes = tt
are_writes (call ∷ later) bytes = (is_write call.kind call.place _ _, are_writes later _)
