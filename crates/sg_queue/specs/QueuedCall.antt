-- What a call of the queue is.
use Rattle.std.specs.Prelude.{ℕ, Bool, true, List}
use Rattle.sg_file.specs.Calls.{Call}
use Rattle.sg_file.specs.Calls.Call.{Write, CutTo, Sync, BeginDraft, WriteDraft, Exchange}
use Rattle.sg_queue.specs.declared.call.CallKind.{CallKind}
use Rattle.sg_queue.specs.declared.call.CallKind.TheVariants as kinds
use Rattle.sg_queue.specs.declared.call.QueuedCall.{QueuedCall}

-- The number of a kind.
abbrev pub number_of : CallKind → ℕ
number_of kinds.Write = 1
number_of kinds.Cut = 2
number_of kinds.Sync = 3
number_of kinds.BeginDraft = 4
number_of kinds.WriteDraft = 5
number_of kinds.Exchange = 6

-- A call by its kind: `place` is the offset of a write, or the length of a cut.
abbrev pub call_of_kind : CallKind → (place : ℕ) → (bytes : List ℕ) → (ok : Bool) → Call
call_of_kind kinds.Write place bytes ok = Write place bytes ok
call_of_kind kinds.Cut place bytes ok = CutTo place ok
call_of_kind kinds.Sync place bytes ok = Sync ok
call_of_kind kinds.BeginDraft place bytes ok = BeginDraft ok
call_of_kind kinds.WriteDraft place bytes ok = WriteDraft bytes ok
call_of_kind kinds.Exchange place bytes ok = Exchange ok

-- A call that waits or was handed out, with its bytes.
abbrev pub call_as : QueuedCall → (bytes : List ℕ) → Call
call_as call bytes = call_of_kind call.kind call.place bytes true
