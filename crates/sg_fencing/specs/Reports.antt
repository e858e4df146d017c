-- Commands that report on the unit (SPC-4, 6): the list of logical units, and the log of the pool.
use Rattle.std.specs.Prelude.{◌≡◌, ℕ, List, [], ◌∷◌, Ok, ◌==◌, if◌then◌else◌, ◌-◌, ◌++◌}
use Rattle.std.specs.FinMap.{len}
use Rattle.sg_wire.specs.CdbDecoding.{command_of}
use Rattle.sg_wire.specs.Fields.{field, fields_bytes}
use Rattle.sg_wire.specs.FirstBytes.{first_bytes}
use Rattle.sg_wire.specs.declared.command.Command.TheVariants as command
use Rattle.sg_wire.specs.declared.command.diagnostic.LogSense.{LogSense}
use Rattle.sg_wire.specs.declared.command.report.ReportLuns.{ReportLuns}
use Rattle.sg_pages.specs.ProvisioningPages.{threshold_sets}
use Rattle.sg_target.specs.State.{State, profile_of}
use Rattle.sg_target.specs.Step.{step}
use Rattle.sg_target.specs.declared.reply.Status.TheVariants.{Good}

-- ---- REPORT LUNS (SPC-4, 6.33)

-- LUN LIST LENGTH, four reserved bytes, and LUN 0.
abbrev pub the_only_lun : List ℕ
the_only_lun =
    0 ∷ 0 ∷ 0 ∷ 8 ∷ 0 ∷ 0 ∷ 0 ∷ 0
    ∷ 0 ∷ 0 ∷ 0 ∷ 0 ∷ 0 ∷ 0 ∷ 0 ∷ 0 ∷ []

-- The same without a logical unit.
abbrev pub no_lun : List ℕ
no_lun = 0 ∷ 0 ∷ 0 ∷ 0 ∷ 0 ∷ 0 ∷ 0 ∷ 0 ∷ []

-- SELECT REPORT 00h asks for logical units, 01h for well known ones, and 02h for both.
abbrev pub luns_of : (select_report : ℕ) → List ℕ
luns_of select = if select == 0x01 then no_lun else the_only_lun

-- A REPORT LUNS that ends with GOOD returns the first bytes of that list.
abbrev pub TheOnlyUnitIsListed : Type 0
TheOnlyUnitIsListed =
    (state : State) (initiator : ℕ) (cdb data_out : List ℕ) (c : ReportLuns)
    → command_of cdb ≡ Ok (command.ReportLuns c)
    → (step state initiator cdb data_out).answer.status ≡ Good
    → (step state initiator cdb data_out).answer.data_in
    ≡ first_bytes c.allocation_length (luns_of c.select)

-- ---- LOG SENSE of the page Logical Block Provisioning (SPC-4, 7.3; SBC-3, log parameters)

-- The page, 0Ch/00h, from its first parameter on.
pub record AsksForCounts (c : LogSense) : Type 0 where
  pub page : c.page_code ≡ 0x0C
  pub subpage : c.subpage_code ≡ 0x00
  pub pointer : c.parameter_pointer ≡ 0x0000

-- PARAMETER CODE, a control byte for a binary list, PARAMETER LENGTH, RESOURCE COUNT, SCOPE 01b for the
-- logical unit, and three reserved bytes.
abbrev pub count_parameter : (code sets : ℕ) → List ℕ
count_parameter code sets =
    0 ∷ code ∷ 0x03 ∷ 8 ∷ fields_bytes (field 4 sets ∷ []) ++ 0x01 ∷ 0 ∷ 0 ∷ 0 ∷ []

-- DS with PAGE CODE, SUBPAGE CODE, PAGE LENGTH, and the two counts in threshold sets.
abbrev pub log_of_counts : (available used : ℕ) → List ℕ
log_of_counts available used =
    0x8C ∷ 0x00 ∷ 0 ∷ 24 ∷ count_parameter 1 available ++ count_parameter 2 used

-- The addresses that are mapped or anchored are the used ones, and the available ones are all others that
-- the pool has blocks for.
abbrev pub TheLogCountsThePool : Type 0
TheLogCountsThePool =
    (state : State) (initiator : ℕ) (cdb data_out : List ℕ) (c : LogSense)
    → command_of cdb ≡ Ok (command.LogSense c) → AsksForCounts c
    → (step state initiator cdb data_out).answer.status ≡ Good
    → let used = len state.disk.contents in
    let sets = threshold_sets (profile_of state) state.disk.capacity in
    (step state initiator cdb data_out).answer.data_in
    ≡ first_bytes c.allocation_length (log_of_counts (sets (state.disk.pool - used)) (sets used))
