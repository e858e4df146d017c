-- The calls of a file whose calls wait.
use Rattle.std.specs.Prelude.{Bool, true, false, List, [], ◌∷◌, ◌++◌, reverse}
use Rattle.sg_file.specs.Calls.{Call}

pub record QueueFields : Type 0 where
  -- the calls that wait, the oldest first
  pub waiting : List Call
  -- the calls that were handed out, and the reading of the file, the newest first
  pub made : List Call
  -- the calls that were refused because there was no memory, the newest first
  pub refused : List Call

abbrev pub no_calls : QueueFields
no_calls = record { waiting = []; made = []; refused = [] }

-- All calls, the newest first.
abbrev pub all_calls : QueueFields → List Call
all_calls file = file.refused ++ reverse file.waiting ++ file.made

-- Whether a call waits.
abbrev pub has_any : (waiting : List Call) → Bool
has_any [] = false
has_any (_ ∷ _) = true
