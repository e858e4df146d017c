-- A crash before the calls that wait are made.
use Rattle.std.specs.Prelude.{◌≤◌, ℕ, List, [], ◌∷◌}
use Rattle.sg_file.specs.Calls.{Call}
use Rattle.sg_file.specs.Calls.Call.{Read}
use Rattle.sg_file.specs.History.{left_since, may_leave, moment}
use Rattle.sg_queue.specs.QueueFields.{QueueFields, all_calls}

-- The call does not read the file.
abbrev pub IsWrite : Call → Type 0
IsWrite (Read bytes ok) = ⊥
IsWrite _ = Unit

abbrev pub AreWrites : List Call → Type 0
AreWrites [] = Unit
AreWrites (call ∷ others) = IsWrite call × AreWrites others

-- A file is read before any call waits.
abbrev pub IsRead : QueueFields → Type 0
IsRead file = AreWrites file.waiting × AreWrites file.refused

-- A crash that comes when only some of the calls were made leaves no more than what a crash may have left
-- at some moment since, by all calls. So what is proved of all calls holds for the real file, too.
abbrev pub WaitingCallsAreMoments : Type 0
WaitingCallsAreMoments =
    (file : QueueFields) → IsRead file → (since : ℕ) → since ≤ moment file.made
    → (c : List ℕ) → may_leave file.made c → left_since (all_calls file) since c
