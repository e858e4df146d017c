-- The row of a CDB by its service action.
use Rattle.std.proofs.Common.{◌≡◌, ℕ, ◌==◌, List, Some, ap}
use Rattle.std.specs.Prelude.{find}
use Rattle.sg_wire.specs.CdbDecoding.{has_action_of, rows_in, service_action}
use Rattle.sg_wire.specs.Table.{layout_of}
use Rattle.sg_wire.specs.declared.command.table.Name.{Name}
use Rattle.sg_wire.specs.declared.command.table.Name.TheVariants as name
use Rattle.sg_wire.specs.declared.profile.Profile.TheVariants.{Extended}
use Rattle.sg_wire.proofs.ActionLemmas.{first-of-three, first-of-two, is_its, one-of-one, second-of-three}
use Rattle.sg_wire.proofs.ActionLemmas.{second-of-two, third-of-three}

-- the row of a CDB by its service action
abbrev pub IsFoundBy : List ℕ → Name → Type 0
IsFoundBy cdb named =
    find (has_action_of cdb) (rows_in Extended (layout_of named).opcode) ≡ Some (layout_of named)

pub capacity-found : (cdb : List ℕ) → service_action cdb ≡ 0x10 → IsFoundBy cdb name.ReadCapacity16
capacity-found cdb h =
    first-of-two cdb (layout_of name.ReadCapacity16) (layout_of name.GetLbaStatus) (is_its _ 0x10 h)

pub status-found : (cdb : List ℕ) → service_action cdb ≡ 0x12 → IsFoundBy cdb name.GetLbaStatus
status-found cdb h =
    second-of-two cdb (layout_of name.ReadCapacity16) (layout_of name.GetLbaStatus)
    (ap (λ n. n == 0x10) h) (is_its _ 0x12 h)

pub codes-found : (cdb : List ℕ) → service_action cdb ≡ 0x0C
    → IsFoundBy cdb name.ReportSupportedOperationCodes
codes-found cdb h =
    first-of-three cdb (layout_of name.ReportSupportedOperationCodes)
    (layout_of name.ReportSupportedTaskManagementFunctions) (layout_of name.ReportTargetPortGroups)
    (is_its _ 0x0C h)

pub functions-found : (cdb : List ℕ) → service_action cdb ≡ 0x0D
    → IsFoundBy cdb name.ReportSupportedTaskManagementFunctions
functions-found cdb h =
    second-of-three cdb (layout_of name.ReportSupportedOperationCodes)
    (layout_of name.ReportSupportedTaskManagementFunctions) (layout_of name.ReportTargetPortGroups)
    (ap (λ n. n == 0x0C) h) (is_its _ 0x0D h)

pub port_groups-found : (cdb : List ℕ) → service_action cdb ≡ 0x0A → IsFoundBy cdb name.ReportTargetPortGroups
port_groups-found cdb h =
    third-of-three cdb (layout_of name.ReportSupportedOperationCodes)
    (layout_of name.ReportSupportedTaskManagementFunctions) (layout_of name.ReportTargetPortGroups)
    (ap (λ n. n == 0x0C) h) (ap (λ n. n == 0x0D) h) (is_its _ 0x0A h)

pub copy-found : (cdb : List ℕ) → service_action cdb ≡ 0x00 → IsFoundBy cdb name.ExtendedCopy
copy-found cdb h = one-of-one cdb (layout_of name.ExtendedCopy) (is_its _ 0x00 h)

pub parameters-found : (cdb : List ℕ) → service_action cdb ≡ 0x03
    → IsFoundBy cdb name.ReceiveCopyOperatingParameters
parameters-found cdb h =
    one-of-one cdb (layout_of name.ReceiveCopyOperatingParameters) (is_its _ 0x03 h)

pub block_erase-found : (cdb : List ℕ) → service_action cdb ≡ 0x02 → IsFoundBy cdb name.SanitizeBlockErase
block_erase-found cdb h =
    first-of-three cdb (layout_of name.SanitizeBlockErase) (layout_of name.SanitizeCryptographicErase)
    (layout_of name.SanitizeExitFailureMode) (is_its _ 0x02 h)

pub cryptographic_erase-found : (cdb : List ℕ) → service_action cdb ≡ 0x03
    → IsFoundBy cdb name.SanitizeCryptographicErase
cryptographic_erase-found cdb h =
    second-of-three cdb (layout_of name.SanitizeBlockErase) (layout_of name.SanitizeCryptographicErase)
    (layout_of name.SanitizeExitFailureMode) (ap (λ n. n == 0x02) h) (is_its _ 0x03 h)

pub exit_failure_mode-found : (cdb : List ℕ) → service_action cdb ≡ 0x1F
    → IsFoundBy cdb name.SanitizeExitFailureMode
exit_failure_mode-found cdb h =
    third-of-three cdb (layout_of name.SanitizeBlockErase) (layout_of name.SanitizeCryptographicErase)
    (layout_of name.SanitizeExitFailureMode) (ap (λ n. n == 0x02) h) (ap (λ n. n == 0x03) h)
    (is_its _ 0x1F h)
