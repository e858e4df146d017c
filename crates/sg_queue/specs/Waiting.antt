-- The calls that wait, by the bytes of all of them.
use Rattle.std.specs.Prelude.{◌≡◌, ◌≤◌, ℕ, List, [], ◌∷◌, length, take, drop}
use Rattle.sg_file.specs.Calls.{Call, bytes_of}
use Rattle.sg_queue.specs.QueuedCall.{call_as}
use Rattle.sg_queue.specs.declared.call.QueuedCall.{QueuedCall}

-- Each call has the next bytes.
abbrev pub waiting : List QueuedCall → (bytes : List ℕ) → List Call
waiting [] bytes = []
waiting (call ∷ later) bytes = call_as call (take call.length bytes) ∷ waiting later (drop call.length bytes)

-- The bytes of the calls are there, and no others. A call that needs no bytes has none.
abbrev pub AreWhole : List QueuedCall → (bytes : List ℕ) → Type 0
AreWhole [] bytes = bytes ≡ []
AreWhole (call ∷ later) bytes =
    (call.length ≤ length bytes)
    × (call.length ≡ length (bytes_of (call_as call (take call.length bytes))))
    × AreWhole later (drop call.length bytes)
