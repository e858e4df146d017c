-- What a disk reports about itself: its logical units, its commands, its task management functions, its
-- target port group, the limits of its copies, its log pages and its defects. Only one log page depends on
-- its blocks: it has the resources of the pool.
use Rattle.std.specs.Prelude.{ℕ, ◌+◌, ◌==◌, ◌&&◌, List, [], ◌∷◌, ◌++◌, length, map, filter, find}
use Rattle.std.specs.Prelude.{Bool, true, false, if◌then◌else◌, Option, Some, None, Result, Ok, Err}
use Rattle.std.specs.Prelude.{nat_lt}
use Rattle.std.specs.List.{flat_map, list_any}
use Rattle.std.specs.Option.{option_map_or}
use Rattle.sg_copy.specs.CopyReports.{operating_parameters}
use Rattle.sg_wire.specs.Fields.{Field, field, fields_bytes}
use Rattle.sg_wire.specs.Profile.{maximum_transfer_length}
use Rattle.sg_wire.specs.SupportedOperations.{longest_support_report, report_data as support_data}
use Rattle.sg_wire.specs.TargetPort.{relative_target_port, target_port_group}
use Rattle.sg_wire.specs.declared.profile.Profile.{Profile}
use Rattle.sg_pages.specs.declared.reports.LogPage.{LogPage}
use Rattle.sg_pages.specs.declared.reports.LogPage.TheVariants.{SupportedPages, SupportedSubpages}
use Rattle.sg_pages.specs.declared.reports.LogPage.TheVariants.{LogicalBlockProvisioning}
use Rattle.sg_pages.specs.declared.reports.LogPage.TheVariants.{InformationalExceptions}
use Rattle.sg_pages.specs.declared.provisioning_pages.MappingResources.{MappingResources}
use Rattle.sg_pages.specs.ProvisioningPages.{from_pointer, resource_parameters, used_code}
use Rattle.sg_pages.specs.declared.reports.Report.{Report}
use Rattle.sg_pages.specs.declared.reports.Report.TheVariants.{LogicalUnits, TaskManagementFunctions}
use Rattle.sg_pages.specs.declared.reports.Report.TheVariants.{TargetPortGroups, CopyParameters}
use Rattle.sg_pages.specs.declared.reports.Report.TheVariants.{Commands, Log}
use Rattle.sg_pages.specs.declared.reports.Report.TheVariants.{DefectLists10, DefectLists12}

-- ---- REPORT LUNS (SPC-4, 6.33)

-- Whether the disk's one logical unit is listed, by SELECT REPORT: it is no well known logical unit.
-- Choice (SPC-4, 6.33): the values from 10h on, which are of later standards, may be supported.
abbrev pub lists_unit : (select_report : ℕ) → Option Bool
lists_unit select =
    if select == 0x00 then Some true
    else (if select == 0x01 then Some false else (if select == 0x02 then Some true else None))

-- LUN 0, by the peripheral device addressing method (SAM-5, 4.7).
abbrev lun_0 : Field
lun_0 = field 8 0

abbrev listed_luns : (listed : Bool) → List Field
listed_luns listed = if listed then lun_0 ∷ [] else []

-- LUN LIST LENGTH, four reserved bytes, and the LUNs.
abbrev lun_list : (luns : List Field) → List Field
lun_list luns = field 4 (length (fields_bytes luns)) ∷ field 4 0 ∷ luns

-- ---- REPORT SUPPORTED TASK MANAGEMENT FUNCTIONS (SPC-4, 6.36)

-- ATS, ATSS, CTSS and LURS, byte 0: ABORT TASK, ABORT TASK SET, CLEAR TASK SET and LOGICAL UNIT RESET. A
-- command is executed at once, so none is left to abort. CLEAR ACA and QUERY TASK are not supported.
abbrev functions : Field
functions = field 1 0xD8

-- QAES, QTSS and ITNRS 0, byte 1: no queries, and no I_T NEXUS RESET.
abbrev queries : Field
queries = field 1 0x00

-- REPD with its timeouts: no timeout is told.
abbrev task_management : (timeouts : Bool) → List Field
task_management timeouts =
    functions ∷ queries ∷ field 1 0
    ∷ (if timeouts then field 1 0x0C ∷ field 12 0 ∷ [] else field 1 0 ∷ [])

-- ---- REPORT TARGET PORT GROUPS (SPC-4, 6.37)

-- Whether the extended header is asked for, by PARAMETER DATA FORMAT. The values from 2 on are reserved.
abbrev pub extended_header_asked : (format : ℕ) → Option Bool
extended_header_asked format =
    if format == 0 then Some false else (if format == 1 then Some true else None)

-- FORMAT TYPE 1h in bits 6 to 4 of its byte, of the extended header.
abbrev format_type : Field
format_type = field 1 0x10

-- IMPLICIT TRANSITION TIME 0: no time is told.
abbrev transition_time : Field
transition_time = field 1 0

-- What a header has after RETURN DATA LENGTH. The extended one ends with two reserved bytes.
abbrev after_length : (extended_header : Bool) → List Field
after_length extended_header =
    if extended_header then format_type ∷ transition_time ∷ field 2 0 ∷ [] else []

-- PREF 0 and ASYMMETRIC ACCESS STATE 0h, byte 0 of the descriptor: active/optimized.
abbrev access_state : Field
access_state = field 1 0x00

-- AO_SUP, byte 1: no other state is supported.
abbrev supported_states : Field
supported_states = field 1 0x01

-- STATUS CODE 0, byte 5, after a reserved byte: no status is told. Byte 6 is vendor specific.
abbrev status : List Field
status = field 1 0 ∷ field 1 0 ∷ field 1 0 ∷ []

-- TARGET PORT COUNT, byte 7, and the one port: two obsolete bytes, and RELATIVE TARGET PORT IDENTIFIER.
abbrev target_ports : List Field
target_ports = field 1 1 ∷ field 2 0 ∷ field 2 relative_target_port ∷ []

-- The target port group descriptor. TARGET PORT GROUP is in bytes 2 and 3.
abbrev group_descriptor : List Field
group_descriptor =
    access_state ∷ supported_states ∷ field 2 target_port_group ∷ status ++ target_ports

-- RETURN DATA LENGTH, and what it counts.
abbrev target_port_groups : (extended_header : Bool) → List Field
target_port_groups extended_header =
    let following = after_length extended_header ++ group_descriptor in
    field 4 (length (fields_bytes following)) ∷ following

-- ---- LOG SENSE (SPC-4, 6.8 and 7.3)

-- PAGE CODE and SUBPAGE CODE.
abbrev pub log_code : LogPage → ℕ × ℕ
log_code SupportedPages = (0x00, 0x00)
log_code SupportedSubpages = (0x00, 0xFF)
log_code LogicalBlockProvisioning = (0x0C, 0x00)
log_code InformationalExceptions = (0x2F, 0x00)

-- PARAMETER CODE of the one parameter of Informational Exceptions.
abbrev exceptions_code : ℕ
exceptions_code = 0x0000

-- In ascending order of their codes.
abbrev pub each_log_page : List LogPage
each_log_page =
    SupportedPages ∷ SupportedSubpages ∷ LogicalBlockProvisioning ∷ InformationalExceptions ∷ []

abbrev pub has_page_code : (page_code : ℕ) → LogPage → Bool
has_page_code page_code page = page_code == (log_code page).0

abbrev pub has_subpage_code : (subpage_code : ℕ) → LogPage → Bool
has_subpage_code subpage_code page = subpage_code == (log_code page).1

-- The largest code of a parameter of each page. The lists of pages have no parameter.
-- Choice (SPC-4, 6.8): PARAMETER POINTER to a parameter of a list of pages may be refused.
abbrev pub last_parameter : LogPage → Option ℕ
last_parameter SupportedPages = None
last_parameter SupportedSubpages = None
last_parameter LogicalBlockProvisioning = Some used_code
last_parameter InformationalExceptions = Some exceptions_code

-- PARAMETER POINTER, from byte 5 on, does not go past the last parameter.
abbrev pub unless_past_last : (pointer : ℕ) → LogPage → Result LogPage ℕ
unless_past_last pointer page =
    if option_map_or (λ last. nat_lt last pointer) (last_parameter page) false then Err 5 else Ok page

-- The page with the codes, or the byte of the CDB that names none: PAGE CODE, or SUBPAGE CODE if some
-- page has the page code, or else PARAMETER POINTER.
abbrev pub log_page_with : (page_code subpage_code pointer : ℕ) → Result LogPage ℕ
log_page_with page_code subpage_code pointer =
    option_map_or (unless_past_last pointer)
    (find (λ page. has_page_code page_code page && has_subpage_code subpage_code page) each_log_page)
    (Err (if list_any (has_page_code page_code) each_log_page then 3 else 2))

-- The lists of the first two pages.
abbrev page_list : List Field
page_list =
    map (λ page. field 1 (log_code page).0) (filter (has_subpage_code 0x00) each_log_page)

abbrev subpage_list : List Field
subpage_list =
    flat_map (λ page. field 1 (log_code page).0 ∷ field 1 (log_code page).1 ∷ []) each_log_page

-- The log parameter of Informational Exceptions: PARAMETER CODE, the control byte, PARAMETER LENGTH, no
-- additional sense code, and no temperature (SPC-4, 7.3).
abbrev exceptions : List Field
exceptions =
    field 2 exceptions_code ∷ field 1 0x03 ∷ field 1 3 ∷ field 2 0x0000 ∷ field 1 0xFF ∷ []

-- DS and SPF, in byte 0 with PAGE CODE: no parameter is saved, and whether there is a subpage.
abbrev log_flags : LogPage → ℕ
log_flags SupportedPages = 0x00
log_flags SupportedSubpages = 0x40
log_flags LogicalBlockProvisioning = 0x80
log_flags InformationalExceptions = 0x80

-- A list of pages, or the parameters from PARAMETER POINTER on.
abbrev log_content : Profile → MappingResources → (pointer : ℕ) → LogPage → List Field
log_content profile pool pointer SupportedPages = page_list
log_content profile pool pointer SupportedSubpages = subpage_list
log_content profile pool pointer LogicalBlockProvisioning = resource_parameters profile pool pointer
log_content profile pool pointer InformationalExceptions = from_pointer pointer exceptions_code exceptions

-- DS, SPF and PAGE CODE, SUBPAGE CODE, PAGE LENGTH, and the content.
abbrev log_page : LogPage → (content : List Field) → List Field
log_page page content =
    field 1 (log_flags page + (log_code page).0) ∷ field 1 (log_code page).1
    ∷ field 2 (length (fields_bytes content)) ∷ content

-- A whole page of a disk of a profile with a pool.
unfoldable pub log_page_data : Profile → MappingResources → (pointer : ℕ) → LogPage → List ℕ
log_page_data profile pool pointer page =
    fields_bytes (log_page page (log_content profile pool pointer page))

-- ---- READ DEFECT DATA (SBC-3, 5.17 and 5.18)

-- The lists that are asked for and their format, as in the CDB: they are valid, and empty. DEFECT LIST
-- LENGTH is 0. In the longer form GENERATION CODE comes before it.
abbrev defect_lists_10 : (lists : ℕ) → List Field
defect_lists_10 lists = field 1 0 ∷ field 1 lists ∷ field 2 0 ∷ []

abbrev defect_lists_12 : (lists : ℕ) → List Field
defect_lists_12 lists = field 1 0 ∷ field 1 lists ∷ field 2 0 ∷ field 4 0 ∷ []

-- ---- All reports

-- Each on a disk of a profile with a pool. The commands are in the table of their layouts. An EXTENDED COPY
-- copies as many blocks as a WRITE writes at most.
unfoldable pub report_data : Profile → MappingResources → Report → List ℕ
report_data profile pool (LogicalUnits listed) = fields_bytes (lun_list (listed_luns listed))
report_data profile pool (Commands report) = support_data profile report
report_data profile pool (TaskManagementFunctions timeouts) = fields_bytes (task_management timeouts)
report_data profile pool (TargetPortGroups extended_header) =
    fields_bytes (target_port_groups extended_header)
report_data profile pool CopyParameters = operating_parameters maximum_transfer_length
report_data profile pool (Log page pointer) = log_page_data profile pool pointer page
report_data profile pool (DefectLists10 lists) = fields_bytes (defect_lists_10 lists)
report_data profile pool (DefectLists12 lists) = fields_bytes (defect_lists_12 lists)

-- The length of the longest report, all commands with their timeouts, in bytes.
abbrev pub longest_report : ℕ
longest_report = longest_support_report
