-- The code's table and the definition's table agree on each CDB.
use Rattle.std.proofs.Common.{◌≡◌, ◌≢◌, ◌<◌, ◌≤◌, ℕ, List, [], ◌∷◌, length, get_or, map, Bool}
use Rattle.std.proofs.Common.{true, false, Option, Some, None, Ok, Err, Result, cond, refl, sym, subst}
use Rattle.std.proofs.Common.{ap, ◌∙◌, arith}
use Rattle.std.proofs.lemmas.Bool.Decides.{nat_tests}
use Rattle.std.specs.Borrow.{Bor}
use Rattle.std.specs.List.{list_all}
use Rattle.std.specs.Option.{option_map_or}
use Rattle.std.specs.Prelude.{find, nat_lt, if◌then◌else◌, IfErr, OnOk}
use Rattle.sg_wire.specs.CdbDecoding.{class_by_row, class_by_rows, class_in, command_by_row}
use Rattle.sg_wire.specs.CdbDecoding.{command_by_rows}
use Rattle.sg_wire.specs.CdbDecoding.{command_in, first_bad, has_action_of, is_blocked_in, make_from}
use Rattle.sg_wire.specs.CdbDecoding.{masks, masks_in, rows_in, service_action, unless_bad}
use Rattle.sg_wire.specs.Commands.{reserve_in}
use Rattle.sg_wire.specs.Layout.{Layout, layout, length_of, table}
use Rattle.sg_wire.specs.Profile.{is_in}
use Rattle.sg_wire.specs.ReservationAction.{each_in_action, out_actions_of}
use Rattle.sg_wire.specs.Table.{HasAction, IsDecodedIn, IsFound, IsNamed, IsNamedByNone, IsRefusedIn}
use Rattle.sg_wire.specs.Table.{IsRow, blocked_found, class_found, class_of_name, command_named}
use Rattle.sg_wire.specs.Table.{command_of_name}
use Rattle.sg_wire.specs.Table.{command_with, fits_masks, is_start_stop, layout_of}
use Rattle.sg_wire.specs.declared.command.CdbFault.{CdbFault}
use Rattle.sg_wire.specs.declared.command.CdbFault.TheVariants.{Empty, Opcode, Short, Field as BadField}
use Rattle.sg_wire.specs.declared.command.Class.{Class}
use Rattle.sg_wire.specs.declared.command.Command.{Command}
use Rattle.sg_wire.specs.declared.command.Class.TheVariants.{Always}
use Rattle.sg_wire.specs.declared.command.table.Found.{Found}
use Rattle.sg_wire.specs.declared.command.table.Found.TheVariants.{Row as FoundRow, NoServiceAction}
use Rattle.sg_wire.specs.declared.command.table.Found.TheVariants.{NoOpcode}
use Rattle.sg_wire.specs.declared.command.table.Name.{Name}
use Rattle.sg_wire.specs.declared.command.table.Name.TheVariants as name
use Rattle.sg_wire.specs.declared.command.table.Row.{Row}
use Rattle.sg_wire.specs.declared.profile.Profile.{Profile}
use Rattle.sg_wire.specs.declared.profile.Profile.TheVariants.{Base, Extended}
use Rattle.sg_wire.proofs.ActionLemmas.{is_no, none-of-one, none-of-three, none-of-two}
use Rattle.sg_wire.proofs.ActionRowLemmas.{capacity-found, status-found, codes-found, functions-found}
use Rattle.sg_wire.proofs.ActionRowLemmas.{port_groups-found, copy-found, parameters-found, block_erase-found}
use Rattle.sg_wire.proofs.ActionRowLemmas.{cryptographic_erase-found, exit_failure_mode-found}
use Rattle.sg_wire.proofs.FieldLemmas.{same-found}
use Rattle.sg_wire.proofs.ReservationLemmas.{out_row}
use Rattle.sg_wire.proofs.ProfileLemmas.{blocked-rows, first_opcode, has_row, is_whole, none-in, none-of-them}
use Rattle.sg_wire.proofs.ProfileLemmas.{rows-none, rows-same}

abbrev unless_short : {A : Type 0} → (is_short : Bool) → List ℕ → Result A CdbFault → Result A CdbFault
unless_short is_short cdb read = if is_short then Err (Short (length cdb)) else read

-- a layout decodes a CDB exactly if the CDB fits the masks
fits : {A : Type 0} (made : A) (cdb : List ℕ) (is_short : Bool) (bad : Option ℕ)
    → unless_short is_short cdb (unless_bad bad (tt {0})) ≡ Ok (tt {0})
    → unless_short is_short cdb (unless_bad bad made) ≡ Ok made
fits made cdb true bad e = cc
fits made cdb false None e = refl
fits made cdb false (Some byte) e = cc

refused : {A : Type 0} (made : A) (cdb : List ℕ) (is_short : Bool) (bad : Option ℕ) (fault : CdbFault)
    → unless_short is_short cdb (unless_bad bad (tt {0})) ≡ Err fault
    → unless_short is_short cdb (unless_bad bad made) ≡ Err fault
refused made cdb true bad fault e = cc
refused made cdb false None fault e = cc
refused made cdb false (Some byte) fault e = cc

by_result : {A : Type 0} (made : A) (cdb : List ℕ) (is_short : Bool) (bad : Option ℕ)
    (checked : Result Unit CdbFault) → checked ≡ unless_short is_short cdb (unless_bad bad (tt {0}))
    → OnOk checked (unless_short is_short cdb (unless_bad bad made) ≡ Ok made)
    × IfErr checked (λ fault. unless_short is_short cdb (unless_bad bad made) ≡ Err fault)
by_result made cdb is_short bad (Ok tt) e = (fits made cdb is_short bad (sym e), tt)
by_result made cdb is_short bad (Err fault) e = (tt, refused made cdb is_short bad fault (sym e))

-- a row is as long as the CDBs of its operation code
whole-row : (profile : Profile) (named : Name)
    → length (masks_in profile (layout_of named)) ≡ length_of (layout_of named).opcode
whole-row profile name.TestUnitReady = refl
whole-row profile named = refl

-- the masks of a row decide whether its command is decoded
pub row-decides : (profile : Profile) (cdb : List ℕ) (named : Name) (bits : List ℕ)
    (checked : Result Unit CdbFault) → bits ≡ masks_in profile (layout_of named)
    → checked ≡ fits_masks bits cdb
    → OnOk checked (IsDecodedIn profile cdb named) × IfErr checked (IsRefusedIn profile cdb named)
unfolding fits_masks
row-decides profile cdb named bits checked m e =
    let l = layout_of named in
    let made = make_from cdb l.fields l.make in
    let is_short = nat_lt (length cdb) (length_of l.opcode) in
    let bad = first_bad 0 (masks_in profile l) cdb in
    let same : checked ≡ unless_short is_short cdb (unless_bad bad (tt {0})) =
    e ∙ ap (λ (bits : List ℕ). fits_masks bits cdb) m
    ∙ ap (λ n. unless_short (nat_lt (length cdb) n) cdb (unless_bad bad (tt {0})))
    (whole-row profile named) in
    by_result made cdb is_short bad checked same

-- no command has more than 16 bytes
pub at_most_16 : (named : Name) → length (masks (layout_of named)) ≤ 16
at_most_16 name.TestUnitReady = omega arith
at_most_16 named = omega arith

-- the command by the row that is found
module _ (profile : Profile) (cdb : List ℕ) where
  abbrev unless_short_by : (opcode : ℕ) → Option Layout → Result Command CdbFault
  unless_short_by opcode found =
      if nat_lt (length cdb) (length_of opcode) then Err (Short (length cdb))
      else command_by_row profile cdb found

  abbrev unless_short_10 : Result Command CdbFault → Result Command CdbFault
  unless_short_10 read = if nat_lt (length cdb) 10 then Err (Short (length cdb)) else read

  -- the name of a CDB's row decides its command
  decodes-whole : (named : Name) → is_whole (command_named named) ≡ true → HasAction cdb named
      → command_by_rows profile cdb (rows_in Extended (layout_of named).opcode)
      ≡ command_of_name profile named cdb
  unfolding command_with
  decodes-whole name.PersistentReserveOut whole h = cc
  decodes-whole name.PersistentReserveIn whole h =
      ap unless_short_10
      (same-found profile cdb (λ action. layout (reserve_in action 0)) (λ action. refl) each_in_action)
  decodes-whole name.ReadCapacity16 whole h = ap (unless_short_by 0x9E) (capacity-found cdb h)
  decodes-whole name.GetLbaStatus whole h = ap (unless_short_by 0x9E) (status-found cdb h)
  decodes-whole name.ReportSupportedOperationCodes whole h = ap (unless_short_by 0xA3) (codes-found cdb h)
  decodes-whole name.ReportSupportedTaskManagementFunctions whole h =
      ap (unless_short_by 0xA3) (functions-found cdb h)
  decodes-whole name.ReportTargetPortGroups whole h = ap (unless_short_by 0xA3) (port_groups-found cdb h)
  decodes-whole name.ExtendedCopy whole h = ap (unless_short_by 0x83) (copy-found cdb h)
  decodes-whole name.ReceiveCopyOperatingParameters whole h =
      ap (unless_short_by 0x84) (parameters-found cdb h)
  decodes-whole name.SanitizeBlockErase whole h = ap (unless_short_by 0x48) (block_erase-found cdb h)
  decodes-whole name.SanitizeCryptographicErase whole h =
      ap (unless_short_by 0x48) (cryptographic_erase-found cdb h)
  decodes-whole name.SanitizeExitFailureMode whole h =
      ap (unless_short_by 0x48) (exit_failure_mode-found cdb h)
  decodes-whole named whole h = refl

  pub decodes : (named : Name) → HasAction cdb named → is_in (layout_of named).profile profile ≡ true
      → command_by_rows profile cdb (rows_in profile (layout_of named).opcode)
      ≡ command_of_name profile named cdb
  unfolding command_with
  decodes name.PersistentReserveOut h has = refl
  decodes name.TestUnitReady h has = refl
  decodes named h has =
      ap (command_by_rows profile cdb) (rows-same profile (command_named named) refl has)
      ∙ decodes-whole named refl h

-- ---- what the table has for a CDB

-- rows that are all of class Always have no other class
abbrev class_or_always : List ℕ → Option Layout → Class
class_or_always cdb found = option_map_or (class_by_row cdb) found Always

module _ (cdb : List ℕ) where
  always-cond : (is_found : Bool) (l : Layout) (later : Option Layout) → class_by_row cdb l ≡ Always
      → class_or_always cdb later ≡ Always → class_or_always cdb (cond is_found (Some l) later) ≡ Always
  always-cond true l later h k = h
  always-cond false l later h k = k

  module _ {A : Type 0} (row : A → Layout) (h : (action : A) → class_by_row cdb (row action) ≡ Always) where
    always-found : (actions : List A)
        → class_or_always cdb (find (has_action_of cdb) (map row actions)) ≡ Always
    always-found [] = refl
    always-found (action ∷ actions) =
        always-cond (has_action_of cdb (row action)) (row action)
        (find (has_action_of cdb) (map row actions)) (h action) (always-found actions)

-- the class, and whether an attention blocks, by the name of a row
abbrev Agrees : Profile → List ℕ → Name → Type 0
Agrees profile cdb named = (class_in profile cdb ≡ Some (class_of_name cdb named))
    × (is_blocked_in profile cdb ≡ (layout_of named).blocked_by_attention)

agrees-out : (profile : Profile) (rest : List ℕ) → Agrees profile (0x5F ∷ rest) name.PersistentReserveOut
unfolding class_in is_blocked_in
agrees-out Base rest =
    (ap Some (always-found (0x5F ∷ rest) out_row (λ action. refl) (out_actions_of Base)), refl)
agrees-out Extended rest =
    (ap Some (always-found (0x5F ∷ rest) out_row (λ action. refl) (out_actions_of Extended)), refl)

agrees : (named : Name) (rest : List ℕ) → is_whole (command_named named) ≡ true
    → HasAction ((layout_of named).opcode ∷ rest) named
    → Agrees Extended ((layout_of named).opcode ∷ rest) named
unfolding class_in is_blocked_in
agrees name.PersistentReserveOut rest whole h = cc
agrees name.PersistentReserveIn rest whole h = (
  ap Some (always-found (0x5E ∷ rest) (λ action. layout (reserve_in action 0)) (λ action. refl)
      each_in_action),
  refl,
)
agrees name.ReadCapacity16 rest whole h =
    (ap (λ found. Some (class_or_always (0x9E ∷ rest) found)) (capacity-found (0x9E ∷ rest) h), refl)
agrees name.GetLbaStatus rest whole h =
    (ap (λ found. Some (class_or_always (0x9E ∷ rest) found)) (status-found (0x9E ∷ rest) h), refl)
agrees name.ReportSupportedOperationCodes rest whole h =
    (ap (λ found. Some (class_or_always (0xA3 ∷ rest) found)) (codes-found (0xA3 ∷ rest) h), refl)
agrees name.ReportSupportedTaskManagementFunctions rest whole h =
    (ap (λ found. Some (class_or_always (0xA3 ∷ rest) found)) (functions-found (0xA3 ∷ rest) h), refl)
agrees name.ReportTargetPortGroups rest whole h =
    (ap (λ found. Some (class_or_always (0xA3 ∷ rest) found)) (port_groups-found (0xA3 ∷ rest) h), refl)
agrees name.ExtendedCopy rest whole h =
    (ap (λ found. Some (class_or_always (0x83 ∷ rest) found)) (copy-found (0x83 ∷ rest) h), refl)
agrees name.ReceiveCopyOperatingParameters rest whole h =
    (ap (λ found. Some (class_or_always (0x84 ∷ rest) found)) (parameters-found (0x84 ∷ rest) h), refl)
agrees name.SanitizeBlockErase rest whole h =
    (ap (λ found. Some (class_or_always (0x48 ∷ rest) found)) (block_erase-found (0x48 ∷ rest) h), refl)
agrees name.SanitizeCryptographicErase rest whole h = (
  ap (λ found. Some (class_or_always (0x48 ∷ rest) found))
      (cryptographic_erase-found (0x48 ∷ rest) h),
  refl,
)
agrees name.SanitizeExitFailureMode rest whole h =
    (ap (λ found. Some (class_or_always (0x48 ∷ rest) found)) (exit_failure_mode-found (0x48 ∷ rest) h), refl)
agrees named rest whole h = (refl, refl)

-- a service action that no command of the operation code has
pub other_16 : (cdb : List ℕ) → service_action cdb ≢ 0x10 → service_action cdb ≢ 0x12
    → IsNamedByNone Extended cdb 0x9E
unfolding IsNamedByNone
other_16 cdb h k =
    none-of-two cdb (layout_of name.ReadCapacity16) (layout_of name.GetLbaStatus) (is_no _ 0x10 h)
    (is_no _ 0x12 k)

pub other_maintenance : (cdb : List ℕ) → service_action cdb ≢ 0x0C → service_action cdb ≢ 0x0D
    → service_action cdb ≢ 0x0A → IsNamedByNone Extended cdb 0xA3
unfolding IsNamedByNone
other_maintenance cdb h k m =
    none-of-three cdb (layout_of name.ReportSupportedOperationCodes)
    (layout_of name.ReportSupportedTaskManagementFunctions) (layout_of name.ReportTargetPortGroups)
    (is_no _ 0x0C h) (is_no _ 0x0D k) (is_no _ 0x0A m)

pub other_copy : (cdb : List ℕ) → service_action cdb ≢ 0x00 → IsNamedByNone Extended cdb 0x83
unfolding IsNamedByNone
other_copy cdb h = none-of-one cdb (layout_of name.ExtendedCopy) (is_no _ 0x00 h)

pub other_results : (cdb : List ℕ) → service_action cdb ≢ 0x03 → IsNamedByNone Extended cdb 0x84
unfolding IsNamedByNone
other_results cdb h =
    none-of-one cdb (layout_of name.ReceiveCopyOperatingParameters) (is_no _ 0x03 h)

pub other_sanitize : (cdb : List ℕ) → service_action cdb ≢ 0x02 → service_action cdb ≢ 0x03
    → service_action cdb ≢ 0x1F → IsNamedByNone Extended cdb 0x48
unfolding IsNamedByNone
other_sanitize cdb h k m =
    none-of-three cdb (layout_of name.SanitizeBlockErase) (layout_of name.SanitizeCryptographicErase)
    (layout_of name.SanitizeExitFailureMode) (is_no _ 0x02 h) (is_no _ 0x03 k) (is_no _ 0x1F m)

-- a CDB with an operation code has a byte
some-byte : (code : ℕ) (cdb : List ℕ) → 1 ≤ code → get_or cdb 0 0 ≡ code → 1 ≤ length cdb
some-byte code [] some h = absurd (omega (arith, some, h))
some-byte code (opcode ∷ rest) some h = omega arith

pub byte_of_in_16 : (cdb : List ℕ) → get_or cdb 0 0 ≡ 0x9E → 1 ≤ length cdb
byte_of_in_16 cdb h = some-byte 0x9E cdb (omega arith) h

pub byte_of_maintenance : (cdb : List ℕ) → get_or cdb 0 0 ≡ 0xA3 → 1 ≤ length cdb
byte_of_maintenance cdb h = some-byte 0xA3 cdb (omega arith) h

pub byte_of_copy : (cdb : List ℕ) → get_or cdb 0 0 ≡ 0x83 → 1 ≤ length cdb
byte_of_copy cdb h = some-byte 0x83 cdb (omega arith) h

pub byte_of_results : (cdb : List ℕ) → get_or cdb 0 0 ≡ 0x84 → 1 ≤ length cdb
byte_of_results cdb h = some-byte 0x84 cdb (omega arith) h

pub byte_of_sanitize : (cdb : List ℕ) → get_or cdb 0 0 ≡ 0x48 → 1 ≤ length cdb
byte_of_sanitize cdb h = some-byte 0x48 cdb (omega arith) h

pub ruleset without_action_in_16 = (other_16, byte_of_in_16)

pub ruleset without_maintenance_action = (other_maintenance, byte_of_maintenance)

pub ruleset without_copy_action = (other_copy, byte_of_copy)

pub ruleset without_results_action = (other_results, byte_of_results)

pub ruleset without_sanitize_action = (other_sanitize, byte_of_sanitize)

module _ (cdb : List ℕ) (opcode : ℕ) where
  none-class : (rows : List Layout) → find (has_action_of cdb) rows ≡ None
      → first_opcode rows ≡ Some opcode → class_by_rows cdb rows ≡ Some Always
  none-class [] none first = cc
  none-class (l ∷ ls) none first =
      ap (λ found. Some (class_or_always cdb found)) none

  none-command : (profile : Profile) (rows : List Layout) → find (has_action_of cdb) rows ≡ None
      → first_opcode rows ≡ Some opcode → command_by_rows profile cdb rows
      ≡ (if nat_lt (length cdb) (length_of opcode) then Err (Short (length cdb)) else Err (BadField 1))
  none-command profile [] none first = cc
  none-command profile (l ∷ ls) none first =
      let same : l.opcode ≡ opcode = cc in
      ap (λ found. if nat_lt (length cdb) (length_of l.opcode) then Err (Short (length cdb))
      else command_by_row profile cdb found) none
      ∙ ap (λ code. if nat_lt (length cdb) (length_of code) then Err (Short (length cdb))
      else Err (BadField 1)) same

module _ (profile : Profile) where
  agrees-same : (named : Name) → is_whole (command_named named) ≡ true → (rest : List ℕ)
      → is_in (layout_of named).profile profile ≡ true
      → HasAction ((layout_of named).opcode ∷ rest) named
      → Agrees profile ((layout_of named).opcode ∷ rest) named
  unfolding class_in is_blocked_in
  agrees-same named whole rest has h =
      let same = rows-same profile (command_named named) whole has in
      let extended = agrees named rest whole h in (
        ap (class_by_rows ((layout_of named).opcode ∷ rest)) same ∙ extended.0,
        ap (list_all (λ (l : Layout). l.blocked_by_attention)) same ∙ extended.1,
      )

  agrees-in : (named : Name) (rest : List ℕ) → is_in (layout_of named).profile profile ≡ true
      → HasAction ((layout_of named).opcode ∷ rest) named
      → Agrees profile ((layout_of named).opcode ∷ rest) named
  unfolding class_in is_blocked_in
  agrees-in name.PersistentReserveOut rest has h = agrees-out profile rest
  agrees-in name.TestUnitReady rest has h = agrees-same name.TestUnitReady refl rest has h
  agrees-in named rest has h = agrees-same named refl rest has h

  agrees-named : (named : Name) (cdb : List ℕ) → is_in (layout_of named).profile profile ≡ true
      → IsNamed cdb named → Agrees profile cdb named
  agrees-named named [] has h = absurd (omega (arith, h.0))
  agrees-named named (opcode ∷ rest) has h =
      subst (λ (code : ℕ). HasAction (code ∷ rest) named → Agrees profile (code ∷ rest) named)
      (sym h.1) (agrees-in named rest has) h.2

  -- the profile has a row of the operation code, none of which has the service action of the CDB
  has-code : (cdb : List ℕ) (row : Bor Row) → IsFound profile cdb (NoServiceAction row)
      → is_in (layout_of row.now.name).profile profile ≡ true
  has-code cdb row h = ap (λ p. is_in p profile) (sym h.2.0) ∙ h.3

  first-without : (cdb : List ℕ) (row : Bor Row) → IsFound profile cdb (NoServiceAction row)
      → first_opcode (rows_in profile (layout_of row.now.name).opcode)
      ≡ Some (layout_of row.now.name).opcode
  first-without cdb row h = has_row profile (command_named row.now.name) (has-code cdb row h)

  row-class : (named : Name) (cdb : List ℕ) (belongs : Profile) → IsNamed cdb named
      → belongs ≡ (layout_of named).profile
      → is_in belongs profile ≡ true → class_in profile cdb ≡ Some (class_of_name cdb named)
  row-class named cdb belongs h same has =
      (agrees-named named cdb (ap (λ p. is_in p profile) (sym same) ∙ has) h).0

  pub class_in-found : (cdb : List ℕ) (found : Found) → IsFound profile cdb found
      → class_in profile cdb ≡ class_found cdb found
  unfolding class_in IsNamedByNone
  class_in-found cdb (FoundRow row) h =
      row-class row.now.name cdb row.now.profile h.0 h.1.0 h.2
  class_in-found [] (NoServiceAction row) h = absurd (omega (arith, h.0))
  class_in-found (opcode ∷ rest) (NoServiceAction row) h =
      let code = (layout_of row.now.name).opcode in
      ap (λ code. class_by_rows (opcode ∷ rest) (rows_in profile code)) h.1
      ∙ none-class (opcode ∷ rest) code (rows_in profile code) h.4 (first-without (opcode ∷ rest) row h)
  class_in-found [] NoOpcode h = refl
  class_in-found (opcode ∷ rest) NoOpcode h = ap (class_by_rows (opcode ∷ rest)) (h (omega arith))

  pub blocked-found : (cdb : List ℕ) (found : Found) → IsFound profile cdb found
      → is_blocked_in profile cdb ≡ blocked_found found
  unfolding is_blocked_in
  blocked-found cdb (FoundRow row) h =
      (agrees-named row.now.name cdb (ap (λ p. is_in p profile) (sym h.1.0) ∙ h.2) h.0).1 ∙ sym h.1.3
  blocked-found [] (NoServiceAction row) h = absurd (omega (arith, h.0))
  blocked-found (opcode ∷ rest) (NoServiceAction row) h =
      ap (λ code. list_all (λ (l : Layout). l.blocked_by_attention) (rows_in profile code)) h.1
      ∙ blocked-rows profile (command_named row.now.name) (has-code (opcode ∷ rest) row h) ∙ sym h.2.3
  blocked-found [] NoOpcode h = refl
  blocked-found (opcode ∷ rest) NoOpcode h =
      ap (list_all (λ (l : Layout). l.blocked_by_attention)) (h (omega arith))

  -- a CDB without a byte, or without a row, is refused
  pub refused-empty : (cdb : List ℕ) → length cdb ≡ 0 → command_in profile cdb ≡ Err Empty
  unfolding command_in
  refused-empty [] none = refl
  refused-empty (opcode ∷ rest) none = absurd (omega arith)

  other_action : (cdb : List ℕ) (row : Bor Row) → IsFound profile cdb (NoServiceAction row)
      → command_in profile cdb ≡ (if nat_lt (length cdb) (length row.now.masks.now)
      then Err (Short (length cdb)) else Err (BadField 1))
  unfolding command_in IsNamedByNone
  other_action [] row h = absurd (omega (arith, h.0))
  other_action (opcode ∷ rest) row h =
      let cdb = opcode ∷ rest in
      let code = (layout_of row.now.name).opcode in
      let wanted : length_of code ≡ length row.now.masks.now =
      sym (ap length h.2.4 ∙ whole-row Extended row.now.name) in
      ap (λ code. command_by_rows profile cdb (rows_in profile code)) h.1
      ∙ none-command cdb code profile (rows_in profile code) h.4 (first-without cdb row h)
      ∙ ap (λ n. if nat_lt (length cdb) n then Err (Short (length cdb)) else Err (BadField 1)) wanted

  pub row-fits : (cdb : List ℕ) (row : Bor Row) → IsFound profile cdb (NoServiceAction row)
      → length row.now.masks.now ≤ 16
  row-fits cdb row h = omega (arith, at_most_16 row.now.name, ap length h.2.4)

  pub refused-short : (cdb : List ℕ) (row : Bor Row) → IsFound profile cdb (NoServiceAction row)
      → length cdb < length row.now.masks.now → command_in profile cdb ≡ Err (Short (length cdb))
  refused-short cdb row h short =
      let is_short : nat_lt (length cdb) (length row.now.masks.now) ≡ true = grind (arith, nat_tests) in
      rw (other_action cdb row h, is_short) refl

  pub refused-action : (cdb : List ℕ) (row : Bor Row) → IsFound profile cdb (NoServiceAction row)
      → length row.now.masks.now ≤ length cdb → command_in profile cdb ≡ Err (BadField 1)
  refused-action cdb row h whole =
      let is_whole : nat_lt (length cdb) (length row.now.masks.now) ≡ false = grind (arith, nat_tests) in
      rw (other_action cdb row h, is_whole) refl

  pub refused-opcode : (cdb : List ℕ) → 1 ≤ length cdb → IsFound profile cdb NoOpcode
      → command_in profile cdb ≡ Err Opcode
  unfolding command_in
  refused-opcode [] some h = absurd (omega arith)
  refused-opcode (opcode ∷ rest) some h = ap (command_by_rows profile (opcode ∷ rest)) (h some)

  -- and a CDB with a row is decoded by it
  pub read-row : (cdb : List ℕ) (row : Bor Row) → IsFound profile cdb (FoundRow row)
      → command_in profile cdb ≡ command_of_name profile row.now.name cdb
  unfolding command_in
  read-row [] row h = absurd (omega (arith, h.0.0))
  read-row (opcode ∷ rest) row h =
      ap (λ code. command_by_rows profile (opcode ∷ rest) (rows_in profile code)) h.0.1
      ∙ decodes profile (opcode ∷ rest) row.now.name h.0.2
      (ap (λ p. is_in p profile) (sym h.1.0) ∙ h.2)

  -- a profile that has the row of a CDB finds it, and a profile that lacks it finds none
  pub row-has : (cdb : List ℕ) (row : Bor Row) → IsFound Extended cdb (FoundRow row)
      → is_in row.now.profile profile ≡ true → IsFound profile cdb (FoundRow row)
  row-has cdb row h has = (h.0, h.1, has)

  none-named : (named : Name) → is_in (layout_of named).profile profile ≡ false
      → rows_in profile (layout_of named).opcode ≡ []
  none-named name.PersistentReserveOut lacks = cc
  none-named name.TestUnitReady lacks = cc
  none-named named lacks = rows-none profile (command_named named) refl lacks

  none-of : (cdb : List ℕ) (row : Row) → IsRow row
      → get_or cdb 0 0 ≡ (layout_of row.name).opcode → is_in row.profile profile ≡ false
      → IsFound profile cdb NoOpcode
  none-of cdb row is code lacks some =
      ap (rows_in profile) code
      ∙ none-named row.name (ap (λ p. is_in p profile) (sym is.0) ∙ lacks)

  pub row-lacks : (cdb : List ℕ) (row : Bor Row) → IsFound Extended cdb (FoundRow row)
      → is_in row.now.profile profile ≡ false → IsFound profile cdb NoOpcode
  row-lacks cdb row h lacks = none-of cdb row.now h.1 h.0.1 lacks

  pub code-has : (cdb : List ℕ) (row : Bor Row) → IsFound Extended cdb (NoServiceAction row)
      → is_in row.now.profile profile ≡ true → IsFound profile cdb (NoServiceAction row)
  unfolding IsNamedByNone
  code-has cdb row h has =
      let none = none-of-them profile (layout_of row.now.name).opcode (has_action_of cdb) table h.4 in
      (h.0, h.1, h.2, has, none)

  pub code-lacks : (cdb : List ℕ) (row : Bor Row) → IsFound Extended cdb (NoServiceAction row)
      → is_in row.now.profile profile ≡ false → IsFound profile cdb NoOpcode
  code-lacks cdb row h lacks = none-of cdb row.now h.2 h.1 lacks

  pub no-row : (cdb : List ℕ) → IsFound Extended cdb NoOpcode → IsFound profile cdb NoOpcode
  no-row cdb h some = none-in profile (get_or cdb 0 0) (h some)

-- only the class of START STOP UNIT depends on fields
class-plain : (cdb : List ℕ) (named : Name) → is_start_stop named ≡ false
    → class_of_name cdb named ≡ (layout_of named).class
class-plain cdb name.StartStopUnit plain = cc
class-plain cdb named plain = refl

pub row-class-plain : (cdb : List ℕ) (row : Row) → IsRow row → is_start_stop row.name ≡ false
    → row.class ≡ class_of_name cdb row.name
row-class-plain cdb row is plain = is.2 ∙ sym (class-plain cdb row.name plain)

pub ruleset class_by_name = row-class-plain

pub ruleset by_row = (refused-empty, row-fits, refused-short, refused-action, refused-opcode, read-row)

pub ruleset by_profile = (row-has, row-lacks, code-has, code-lacks, no-row)
