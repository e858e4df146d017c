-- Registrations, in the order in which they were made (SPC-4, 5.13, registering).
use Rattle.std.specs.Prelude.{ℕ, ◌^◌, ◌==◌, Bool, not, ◌&&◌, ◌||◌, if◌then◌else◌, bit_or}
use Rattle.std.specs.Prelude.{List, [], ◌∷◌, ◌++◌, map, filter, find, count_by, Option, option_map}
use Rattle.std.specs.List.{fold, list_any}
use Rattle.sg_wire.specs.Initiator.{initiator_count}
use Rattle.sg_wire.specs.declared.profile.Rules.{Rules}
use Rattle.sg_units.specs.declared.registrations.Registration.{Registration}

-- The most registrations on a disk of any profile: one of each initiator.
abbrev pub max_registrations : ℕ
max_registrations = initiator_count

-- The number of registrations that there is room for on a disk with these rules.
abbrev pub room_for_registrations : Rules → ℕ
room_for_registrations rules = if rules.has_room_for_all_registrations then max_registrations else 6

abbrev pub registration : (initiator key : ℕ) → (all_tg_pt : Bool) → Registration
registration initiator key all_tg_pt =
    record { initiator = initiator; key = key; all_tg_pt = all_tg_pt }

abbrev pub is_of : (initiator : ℕ) → Registration → Bool
is_of initiator r = r.initiator == initiator

abbrev pub is_under : (key : ℕ) → Registration → Bool
is_under key r = r.key == key

-- ---- Who is registered

abbrev pub is_registered : List Registration → (initiator : ℕ) → Bool
is_registered registrations initiator = list_any (is_of initiator) registrations

abbrev pub is_registered_under : List Registration → (initiator key : ℕ) → Bool
is_registered_under registrations initiator key =
    list_any (λ r. is_of initiator r && is_under key r) registrations

-- Some initiator is registered under a key.
abbrev pub has_key : List Registration → (key : ℕ) → Bool
has_key registrations key = list_any (is_under key) registrations

-- A mask of the registrants. Initiator i has bit i.
abbrev pub registered_mask : List Registration → ℕ
registered_mask registrations = fold bit_or 0 (map (λ r. 2 ^ r.initiator) registrations)

-- The reservation key of an initiator.
abbrev pub key_of : List Registration → (initiator : ℕ) → Option ℕ
key_of registrations initiator =
    option_map (λ (r : Registration). r.key) (find (is_of initiator) registrations)

-- The number of registrations that an initiator has.
abbrev pub registrations_of : List Registration → (initiator : ℕ) → ℕ
registrations_of registrations initiator = count_by (is_of initiator) registrations

-- ---- What they become

abbrev pub with_registration : List Registration → Registration → List Registration
with_registration registrations r = registrations ++ r ∷ []

-- A registration takes the place of its initiator's.
abbrev pub with_replaced : List Registration → Registration → List Registration
with_replaced registrations new =
    map (λ r. if is_of new.initiator r then new else r) registrations

abbrev pub without_initiator : List Registration → (initiator : ℕ) → List Registration
without_initiator registrations initiator = filter (λ r. not (is_of initiator r)) registrations

abbrev pub without_key : List Registration → (key : ℕ) → List Registration
without_key registrations key = filter (λ r. not (is_under key r)) registrations

-- The registrations of others under a key are removed.
abbrev pub without_key_of_others : List Registration → (initiator key : ℕ) → List Registration
without_key_of_others registrations initiator key =
    filter (λ r. is_of initiator r || not (is_under key r)) registrations

abbrev pub without_others : List Registration → (initiator : ℕ) → List Registration
without_others registrations initiator = filter (is_of initiator) registrations
