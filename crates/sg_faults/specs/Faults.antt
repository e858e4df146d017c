-- The faults that are armed on a disk.
use Rattle.std.specs.Prelude.{ℕ, Bool, ◌&&◌, List, [], ◌∷◌, map, replicate, slice_set}
use Rattle.std.specs.Prelude.{Option, Some, None, if◌then◌else◌, is_none, is_some, option_and_then}
use Rattle.std.specs.List.{list_any}
use Rattle.sg_faults.specs.Arming.{armed, count_for, counted, first_bad, is_due}
use Rattle.sg_faults.specs.Arming.{is_healed_by, lasts}
use Rattle.sg_faults.specs.Meeting.{Seen, meets}
use Rattle.sg_faults.specs.Places.{At}
use Rattle.sg_faults.specs.declared.fault.ArmedFault.{ArmedFault}
use Rattle.sg_faults.specs.declared.fault.Fault.{Fault}
use Rattle.sg_faults.specs.declared.outcome.Struck.{Struck}

-- By their numbers. Under some numbers there is none.
abbrev pub Faults : Type 0
Faults = List (Option ArmedFault)

-- The number of faults that there is room for.
abbrev pub max_faults : ℕ
max_faults = 8

abbrev pub no_faults : Faults
no_faults = replicate max_faults None

abbrev pub is_armed : Faults → Bool
is_armed faults = list_any is_some faults

-- ---- Armed and disarmed

-- A fault is armed under the lowest free number, if one is free.
abbrev pub with_fault : Faults → Fault → Faults
with_fault [] fault = []
with_fault (None ∷ faults) fault = Some (armed fault) ∷ faults
with_fault (Some a ∷ faults) fault = Some a ∷ with_fault faults fault

abbrev pub disarmed : Faults → (number : ℕ) → Faults
disarmed faults number = slice_set faults number None

-- The faults whose blocks a command heals are gone.
abbrev pub healed_slot : Seen → Option ArmedFault → Option ArmedFault
healed_slot command slot =
    option_and_then (λ a. if is_healed_by command a then None else Some a) slot

unfoldable pub healed : Seen → Faults → Faults
healed command faults = map (healed_slot command) faults

-- Then a number is free for another fault.
abbrev pub have_room_after : Seen → Faults → Bool
have_room_after command faults = list_any (λ slot. is_none (healed_slot command slot)) faults

-- ---- Asked about a command

-- What a fault does to a command at a place. The command meets it, and it is due.
abbrev pub struck_by : {A : Type 0} → At A → Seen → ArmedFault → Option (Struck A)
struck_by at command a =
    option_and_then
    (λ outcome. if meets command a.fault && is_due (count_for a command.initiator)
    then Some (record { outcome = outcome; first_bad = first_bad command a.fault }) else None)
    (at a.fault.outcome)

abbrev pub struck_in : {A : Type 0} → At A → Seen → Option ArmedFault → Option (Struck A)
struck_in at command slot = option_and_then (struck_by at command) slot

-- A fault counts a command that meets it at its place.
abbrev pub met : {A : Type 0} → At A → Seen → ArmedFault → ArmedFault
met at command a =
    if is_some (at a.fault.outcome) && meets command a.fault
    then counted a command.initiator else a

-- It goes if nothing is left of it.
abbrev pub after_asking : {A : Type 0} → At A → Seen → Option ArmedFault → Option ArmedFault
after_asking at command slot =
    option_and_then (λ a. if lasts (met at command a) then Some (met at command a) else None) slot

-- The first fault that is due decides.
abbrev pub decided : {A : Type 0} → At A → Seen → Faults → Option (Struck A)
decided at command [] = None
decided at command (slot ∷ faults) =
    if is_some (struck_in at command slot) then struck_in at command slot
    else decided at command faults

-- It and those before it are asked.
abbrev pub asked : {A : Type 0} → At A → Seen → Faults → Faults
asked at command [] = []
asked at command (slot ∷ faults) =
    after_asking at command slot
    ∷ (if is_some (struck_in at command slot) then faults else asked at command faults)
