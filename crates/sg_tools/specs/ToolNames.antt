-- The tools (sg3_utils(8)), and the profiles of the disks whose scripts have them.
use Rattle.std.specs.Prelude.{List, [], ◌∷◌, filter, find, codes, Option}
use Rattle.std.specs.Str.{bytes_eq}
use Rattle.clap.specs.Words.{Text}
use Rattle.sg_tools.specs.declared.tool_name.ToolName.{ToolName}
use Rattle.sg_tools.specs.declared.tool_name.ToolName.TheVariants.{SgInq, SgVpd, SgModes, SgUnmap}
use Rattle.sg_tools.specs.declared.tool_name.ToolName.TheVariants.{SgGetLbaStatus, SgPersist}
use Rattle.sg_tools.specs.declared.tool_name.ToolName.TheVariants.{SgTurs, SgRequests, SgLuns}
use Rattle.sg_tools.specs.declared.tool_name.ToolName.TheVariants.{SgOpcodes, SgLogs, SgReadcap}
use Rattle.sg_tools.specs.declared.tool_name.ToolName.TheVariants.{SgSync, SgVerify}
use Rattle.sg_tools.specs.declared.tool_name.ToolName.TheVariants.{SgCompareAndWrite, SgWriteSame}
use Rattle.sg_tools.specs.declared.tool_name.ToolName.TheVariants.{SgStart}
use Rattle.sg_wire.specs.Profile.{is_in}
use Rattle.sg_wire.specs.declared.profile.Profile.{Profile}
use Rattle.sg_wire.specs.declared.profile.Profile.TheVariants.{Base, Extended}

-- A tool, its name, and the profile that it belongs to.
pub record ToolRow : Type 0 where
  pub tool : ToolName
  pub name : Text
  pub profile : Profile

abbrev base : ToolName → Text → ToolRow
base tool name = record { tool = tool; name = name; profile = Base }

abbrev extended : ToolName → Text → ToolRow
extended tool name = record { tool = tool; name = name; profile = Extended }

abbrev pub row_of : ToolName → ToolRow
row_of SgInq = base SgInq (codes "sg_inq")
row_of SgVpd = base SgVpd (codes "sg_vpd")
row_of SgModes = base SgModes (codes "sg_modes")
row_of SgUnmap = base SgUnmap (codes "sg_unmap")
row_of SgGetLbaStatus = base SgGetLbaStatus (codes "sg_get_lba_status")
row_of SgPersist = base SgPersist (codes "sg_persist")
row_of SgTurs = extended SgTurs (codes "sg_turs")
row_of SgRequests = extended SgRequests (codes "sg_requests")
row_of SgLuns = extended SgLuns (codes "sg_luns")
row_of SgOpcodes = extended SgOpcodes (codes "sg_opcodes")
row_of SgLogs = extended SgLogs (codes "sg_logs")
row_of SgReadcap = extended SgReadcap (codes "sg_readcap")
row_of SgSync = extended SgSync (codes "sg_sync")
row_of SgVerify = extended SgVerify (codes "sg_verify")
row_of SgCompareAndWrite = extended SgCompareAndWrite (codes "sg_compare_and_write")
row_of SgWriteSame = extended SgWriteSame (codes "sg_write_same")
row_of SgStart = extended SgStart (codes "sg_start")

abbrev pub name_of : ToolName → Text
name_of tool = (row_of tool).name

abbrev pub each_tool : List ToolName
each_tool =
    SgInq ∷ SgVpd ∷ SgModes ∷ SgUnmap ∷ SgGetLbaStatus ∷ SgPersist ∷ SgTurs ∷ SgRequests ∷ SgLuns
    ∷ SgOpcodes ∷ SgLogs ∷ SgReadcap ∷ SgSync ∷ SgVerify ∷ SgCompareAndWrite ∷ SgWriteSame
    ∷ SgStart ∷ []

-- The tools that a script for a disk of a profile has.
abbrev pub tools_of : Profile → List ToolName
tools_of profile = filter (λ tool. is_in (row_of tool).profile profile) each_tool

-- The tool of them that has a word as its name.
abbrev pub tool_named : Profile → Text → Option ToolName
tool_named profile word = find (λ tool. bytes_eq word (name_of tool)) (tools_of profile)
