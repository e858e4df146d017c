-- What functions that read a value, and functions that apply a record, return.
use Rattle.std.specs.Prelude.{◌≡◌, List, ℕ, Option, Some, None}
use Rattle.sg_units.specs.declared.reservation_state.ReservationState.{ReservationState}
use Rattle.sg_changes.specs.Change.{Change, Persistent, applied, restored}
use Rattle.sg_changes.specs.Format.{◌>>=◌}
use Rattle.sg_changes.specs.KeptFields.{KeptFields}

-- A function returned what reading gives, seen by a view.
abbrev pub Gives : {X Y : Type 0} → (X → Y) → Option X → Option Y → Type 0
Gives view (Some x) read = read ≡ Some (view x)
Gives view None read = read ≡ None

-- What is kept after a change that was read, and the bytes after its record.
abbrev pub applied_to : KeptFields → Option (Change × List ℕ) → Option (KeptFields × List ℕ)
applied_to kept read = read >>= λ r. applied kept r.0 >>= λ after. Some (after, r.1)

-- The registrations and the reservation that are restored of what was read, and the bytes after
-- that.
abbrev pub restored_to : Option (Option Persistent × List ℕ) → Option (ReservationState × List ℕ)
restored_to read = read >>= λ r. restored r.0 >>= λ state. Some (state, r.1)
