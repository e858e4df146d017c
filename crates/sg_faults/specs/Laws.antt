-- Laws of the definitions.
use Rattle.std.specs.Prelude.{◌≡◌, ℕ, Bool, true, false, not, Option, Some, None}
use Rattle.std.specs.List.{list_all}
use Rattle.sg_faults.specs.Arming.{count_for, is_spent}
use Rattle.sg_faults.specs.Faults.{Faults, asked, decided, healed, is_armed}
use Rattle.sg_faults.specs.Meeting.{Seen, meets}
use Rattle.sg_faults.specs.Places.{At, afterwards, at_medium, on_arrival}
use Rattle.sg_faults.specs.declared.fault.ArmedFault.{ArmedFault}

-- If no fault is armed, none does anything at a place, and none counts a command.
abbrev pub DoNothing : {A : Type 0} → At A → Type 0
DoNothing at =
    (command : Seen) (faults : Faults) → is_armed faults ≡ false
    → (decided at command faults ≡ None) × (asked at command faults ≡ faults)

pub record UnarmedFaultsDoNothing : Type 0 where
  pub on_arrival : DoNothing on_arrival
  pub at_medium : DoNothing at_medium
  pub afterwards : DoNothing afterwards
  -- and none is healed
  pub healing : (command : Seen) (faults : Faults) → is_armed faults ≡ false
      → healed command faults ≡ faults

-- ---- Commands that no fault changes

-- While a condition on a command and the armed faults holds, none does anything to the command at a
-- place. The condition holds after the faults were asked, too.
abbrev pub Quiets : (condition : Seen → Faults → Bool) → {A : Type 0} → At A → Type 0
Quiets condition at =
    (command : Seen) (faults : Faults) → condition command faults ≡ true
    → (decided at command faults ≡ None) × (condition command (asked at command faults) ≡ true)

-- So it is at each place, and after some faults were healed.
pub record KeepsQuiet (condition : Seen → Faults → Bool) : Type 0 where
  pub on_arrival : Quiets condition on_arrival
  pub at_medium : Quiets condition at_medium
  pub afterwards : Quiets condition afterwards
  pub healing : (command : Seen) (faults : Faults) → condition command faults ≡ true
      → condition command (healed command faults) ≡ true

-- Nothing is left of a fault for an initiator. So it is from the beginning if the fault does not name it.
abbrev pub has_nothing_left : (initiator : ℕ) → Option ArmedFault → Bool
has_nothing_left initiator None = true
has_nothing_left initiator (Some a) = is_spent (count_for a initiator)

-- Nothing is left of any armed fault for the initiator of a command.
abbrev pub is_spared : Faults → (initiator : ℕ) → Bool
is_spared faults initiator = list_all (has_nothing_left initiator) faults

abbrev pub SparedInitiatorsMeetNoFault : Type 0
SparedInitiatorsMeetNoFault = KeepsQuiet (λ command faults. is_spared faults command.initiator)

-- A command is not one that the fault meets.
abbrev pub is_unmet : Seen → Option ArmedFault → Bool
is_unmet command None = true
is_unmet command (Some a) = not (meets command a.fault)

-- It meets no armed fault.
abbrev pub meets_none : Seen → Faults → Bool
meets_none command faults = list_all (is_unmet command) faults

abbrev pub UnmetFaultsDoNothing : Type 0
UnmetFaultsDoNothing = KeepsQuiet meets_none
