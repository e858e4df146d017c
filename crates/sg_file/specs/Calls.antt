-- The calls on a file, and the events by which they are noted.
use Rattle.std.specs.Prelude.{ℕ, Bool, List, [], map, ◌==◌, if◌then◌else◌}
use Rattle.sg_journal.specs.Record.{Event}

-- A call, and whether it succeeded. A `Read` is of the next bytes, before any other call.
pub data Call : Type 0 where
  Read : (bytes : List ℕ) → (ok : Bool) → Call
  Write : (at : ℕ) → (bytes : List ℕ) → (ok : Bool) → Call
  CutTo : (len : ℕ) → (ok : Bool) → Call
  Sync : (ok : Bool) → Call
  BeginDraft : (ok : Bool) → Call
  WriteDraft : (bytes : List ℕ) → (ok : Bool) → Call
  Exchange : (ok : Bool) → Call

-- ---- Events

-- By its number.
abbrev pub call_numbered : (number at : ℕ) → (ok : Bool) → (bytes : List ℕ) → Call
call_numbered number at ok bytes =
    if number == 0 then Read bytes ok
    else if number == 1 then Write at bytes ok
    else if number == 2 then CutTo at ok
    else if number == 3 then Sync ok
    else if number == 4 then BeginDraft ok
    else if number == 5 then WriteDraft bytes ok
    else Exchange ok

abbrev pub call_of : Event → Call
call_of e = call_numbered e.call e.place e.succeeded e.bytes

-- In the order of their events.
abbrev pub calls : List Event → List Call
calls events = map call_of events

-- ---- Bytes

-- The bytes that a call writes.
abbrev pub bytes_of : Call → List ℕ
bytes_of (Write at bytes ok) = bytes
bytes_of (WriteDraft bytes ok) = bytes
bytes_of _ = []
