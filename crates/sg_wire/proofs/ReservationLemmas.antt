-- The CDBs of PERSISTENT RESERVE IN and PERSISTENT RESERVE OUT.
use Rattle.std.proofs.Common.{◌≡◌, ◌≤◌, ℕ, ◌==◌, List, [], ◌∷◌, length, drop, get_or, map}
use Rattle.std.proofs.Common.{Bool, true, false, Option, Some, None, Result, Ok, Err, cond}
use Rattle.std.proofs.Common.{refl, ◌∙◌, arith}
use Rattle.std.specs.Prelude.{find, option_map, nat_lt, if◌then◌else◌}
use Rattle.std.proofs.lemmas.Bool.Decides.{nat_tests}
use Rattle.byteorder.specs.Endian.{big_number}
use Rattle.sg_wire.specs.declared.command.out_action.OutAction.{OutAction}
use Rattle.sg_wire.specs.Commands.{reserve_out}
use Rattle.sg_wire.specs.declared.command.CdbFault.{CdbFault}
use Rattle.sg_wire.specs.declared.command.CdbFault.TheVariants.{Short}
use Rattle.sg_wire.specs.CdbDecoding.{command_by_row, first_bad, has_action_of, masks}
use Rattle.sg_wire.specs.CdbDecoding.{service_action, unless_bad}
use Rattle.sg_wire.specs.Layout.{Layout, layout}
use Rattle.sg_wire.specs.Table.{command_with, fits_masks}
use Rattle.sg_wire.specs.declared.profile.Profile.{Profile}
use Rattle.sg_wire.specs.declared.profile.Profile.TheVariants.{Base, Extended}
use Rattle.sg_wire.specs.ReservationAction.{out_code, out_action_with, out_actions_of}

abbrev pub out_row : OutAction → Layout
out_row action = layout (reserve_out action 0 0)

mapped-cond : (action : OutAction) (other : Option OutAction) (is_found : Bool)
    → cond is_found (Some (out_row action)) (option_map out_row other)
    ≡ option_map out_row (cond is_found (Some action) other)
mapped-cond action other true = refl
mapped-cond action other false = refl

-- a row is found by its service action
find-row : (cdb : List ℕ) (actions : List OutAction) → find (has_action_of cdb) (map out_row actions)
    ≡ option_map out_row (find (λ action. service_action cdb == out_code action) actions)
find-row cdb [] = refl
find-row cdb (action ∷ actions) =
    rw (find-row cdb actions) (mapped-cond action _ (service_action cdb == out_code action))

long_enough : (count : ℕ) → 10 ≤ count → nat_lt count 10 ≡ false
long_enough count h = grind (arith, nat_tests)

pub reserve_out-known : (profile : Profile) (cdb : List ℕ) (action : OutAction) → 10 ≤ length cdb
    → out_action_with profile (service_action cdb) ≡ Some action
    → command_with profile 0x5F cdb ≡ command_by_row Extended cdb (Some (out_row action))
unfolding command_with
reserve_out-known Base cdb action whole known =
    rw (long_enough (length cdb) whole, find-row cdb (out_actions_of Base), known) refl
reserve_out-known Extended cdb action whole known =
    rw (long_enough (length cdb) whole, find-row cdb (out_actions_of Extended), known) refl

-- no byte is bad if the masks fit
abbrev fit : (is_short : Bool) (count : ℕ) → Option ℕ → Result Unit CdbFault
fit is_short count bad = if is_short then Err (Short count) else unless_bad bad tt

unless_bad-fit : {A : Type 0} (value : A) (is_short : Bool) (count : ℕ) (bad : Option ℕ)
    → fit is_short count bad ≡ Ok tt → unless_bad bad value ≡ Ok value
unless_bad-fit value true count bad e = cc
unless_bad-fit value false count None e = refl
unless_bad-fit value false count (Some byte) e = cc

unless_bad-refused : {A : Type 0} (value : A) (is_short : Bool) (count : ℕ) (bad : Option ℕ)
    (fault : CdbFault) → is_short ≡ false → fit is_short count bad ≡ Err fault
    → unless_bad bad value ≡ Err fault
unless_bad-refused value true count bad fault e h = cc
unless_bad-refused value false count None fault e h = cc
unless_bad-refused value false count (Some byte) fault e h = cc

pub reserve_out-refused : (profile : Profile) (cdb : List ℕ) (action : OutAction) (fault : CdbFault)
    → 10 ≤ length cdb → out_action_with profile (service_action cdb) ≡ Some action
    → fits_masks (masks (out_row action)) cdb ≡ Err fault → command_with profile 0x5F cdb ≡ Err fault
unfolding fits_masks
reserve_out-refused profile cdb action fault whole known refused =
    reserve_out-known profile cdb action whole known
    ∙ unless_bad-refused (reserve_out action (get_or cdb 2 0) (big_number 4 (drop 5 cdb)))
    (nat_lt (length cdb) 10) (length cdb) (first_bad 0 (masks (out_row action)) cdb) fault
    (long_enough (length cdb) whole) refused

pub reserve_out-fits : (profile : Profile) (cdb : List ℕ) (action : OutAction) → 10 ≤ length cdb
    → out_action_with profile (service_action cdb) ≡ Some action
    → fits_masks (masks (out_row action)) cdb ≡ Ok tt → command_with profile 0x5F cdb
    ≡ Ok (reserve_out action (get_or cdb 2 0) (big_number 4 (drop 5 cdb)))
unfolding fits_masks
reserve_out-fits profile cdb action whole known fits =
    let bits = masks (out_row action) in
    reserve_out-known profile cdb action whole known
    ∙ unless_bad-fit (reserve_out action (get_or cdb 2 0) (big_number 4 (drop 5 cdb)))
    (nat_lt (length cdb) (length bits)) (length cdb) (first_bad 0 bits cdb) fits
