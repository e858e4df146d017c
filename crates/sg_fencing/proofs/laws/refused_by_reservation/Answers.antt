use Rattle.std.proofs.Common.{◌≡◌, ℕ, List, [], ◌∷◌, Option, Some, None, Result, Err}
use Rattle.std.proofs.Common.{Bool, true, false, refl}
use Rattle.std.specs.Prelude.{if◌then◌else◌, find, nat_lt, length}
use Rattle.sg_wire.specs.CdbDecoding.{class_by_rows, class_in, command_by_row, command_by_rows}
use Rattle.sg_wire.specs.CdbDecoding.{command_in, first_bad, has_action_of, masks_in}
use Rattle.sg_wire.specs.CdbDecoding.{rows_in, unless_bad}
use Rattle.sg_wire.specs.Layout.{Layout, length_of}
use Rattle.sg_wire.specs.declared.command.CdbFault.{CdbFault}
use Rattle.sg_wire.specs.declared.command.CdbFault.TheVariants.{Short}
use Rattle.sg_wire.specs.declared.command.Class.{Class}
use Rattle.sg_wire.specs.declared.command.Command.{Command}
use Rattle.sg_wire.specs.declared.profile.Profile.{Profile}
use Rattle.sg_units.specs.Access.{allows}
use Rattle.sg_target.specs.Checks.{cdb_checks, checked_cdb, empty_cdb}
use Rattle.sg_target.specs.Refusal.{first_some}
use Rattle.sg_target.specs.Checks.{reservation_conflict}
use Rattle.sg_target.specs.State.{State, profile_of}
use Rattle.sg_target.specs.declared.refusal.Refusal.{Refusal}
use Rattle.sg_target.specs.declared.refusal.Refusal.TheVariants.{Conflict}
use Rattle.sg_fencing.proofs.laws.refused_by_reservation.Goals as goal

-- the CDB has a byte
abbrev HasByte : Result Command CdbFault → Type 0
HasByte parse = empty_cdb parse ≡ None

byte-or-bad : (bad : Option ℕ) (command : Command) → HasByte (unless_bad bad command)
byte-or-bad None command = refl
byte-or-bad (Some byte) command = refl

byte-by-row : (profile : Profile) (cdb : List ℕ) (found : Option Layout)
    → HasByte (command_by_row profile cdb found)
byte-by-row profile cdb None = refl
byte-by-row profile cdb (Some l) = byte-or-bad (first_bad 0 (masks_in profile l) cdb) _

byte-or-short : (is_short : Bool) (count : ℕ) (parse : Result Command CdbFault) → HasByte parse
    → HasByte (if is_short then Err (Short count) else parse)
byte-or-short true count parse h = refl
byte-or-short false count parse h = h

byte-by-rows : (profile : Profile) (cdb : List ℕ) (rows : List Layout) (class : Class)
    → class_by_rows cdb rows ≡ Some class → HasByte (command_by_rows profile cdb rows)
byte-by-rows profile cdb [] class h = cc
byte-by-rows profile cdb (l ∷ ls) class h =
    byte-or-short (nat_lt (length cdb) (length_of l.opcode)) _ _
    (byte-by-row profile cdb (find (has_action_of cdb) (l ∷ ls)))

has-byte : (profile : Profile) (cdb : List ℕ) (class : Class) → class_in profile cdb ≡ Some class
    → HasByte (command_in profile cdb)
unfolding class_in command_in
has-byte profile [] class h = cc
has-byte profile (opcode ∷ rest) class h =
    byte-by-rows profile (opcode ∷ rest) (rows_in profile opcode) class h

conflicts : (state : State) (i : ℕ) (cdb : List ℕ) (class : Class)
    → class_in (profile_of state) cdb ≡ Some class → allows state.reservations i class ≡ false
    → reservation_conflict state i cdb ≡ Some Conflict
conflicts state i cdb class h refused = rw (h, refused) refl

first-conflict : (a b c : Option Refusal) (rest : List (Option Refusal))
    → a ≡ None → b ≡ None → c ≡ Some Conflict → first_some (a ∷ b ∷ c ∷ rest) ≡ Some Conflict
first-conflict None None (Some refusal) rest ha hb hc = hc
first-conflict None None None rest ha hb hc = cc
first-conflict (Some x) b c rest ha hb hc = cc
first-conflict None (Some x) c rest ha hb hc = cc

conflict-decides : (state : State) (i : ℕ) (cdb data_out : List ℕ)
    → first_some (cdb_checks state i cdb) ≡ Some Conflict
    → checked_cdb state i cdb data_out ≡ Err Conflict
unfolding checked_cdb
conflict-decides state i cdb data_out h = rw h refl

pub returns : goal.returns
returns c state i cdb data_out class is not_allowed none =
    let sound = has-byte (profile_of state) cdb class is in
    let conflict = conflicts state i cdb class is not_allowed in
    let first = first-conflict _ _ _ _ sound none conflict in
    let refused = conflict-decides state i cdb data_out first in
    rw refused refl
