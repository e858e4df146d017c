-- The options of the tools (their manual pages in sg3_utils, with the choices of docs/DECISIONS.md).
use Rattle.std.specs.Prelude.{ℕ, List, [], ◌∷◌, map, codes, slice_index, Option, Some, None, Bool}
use Rattle.std.specs.Prelude.{true, false, if◌then◌else◌}
use Prim.Native.String.{String}
use Rattle.clap.specs.Words.{App, Rule, Text, new_app, new_rule, with_rule}
use Rattle.clap.specs.declared.builder.ArgAction.TheVariants.{SetTrue, Set}
use Rattle.sg_tools.specs.ToolNames.{name_of}
use Rattle.sg_tools.specs.declared.tool_name.ToolName.{ToolName}
use Rattle.sg_tools.specs.declared.tool_name.ToolName.TheVariants.{SgInq, SgVpd, SgModes, SgUnmap}
use Rattle.sg_tools.specs.declared.tool_name.ToolName.TheVariants.{SgGetLbaStatus, SgPersist}
use Rattle.sg_tools.specs.declared.tool_name.ToolName.TheVariants.{SgTurs, SgRequests, SgLuns}
use Rattle.sg_tools.specs.declared.tool_name.ToolName.TheVariants.{SgOpcodes, SgLogs, SgReadcap}
use Rattle.sg_tools.specs.declared.tool_name.ToolName.TheVariants.{SgSync, SgVerify}
use Rattle.sg_tools.specs.declared.tool_name.ToolName.TheVariants.{SgCompareAndWrite, SgWriteSame}
use Rattle.sg_tools.specs.declared.tool_name.ToolName.TheVariants.{SgStart}

-- ---- The tables

-- An option: its short name, if it has one, its long name, and whether it has a text. An option
-- without a text is a flag.
pub record OptionRow : Type 0 where
  pub short : Option ℕ
  pub long : Text
  pub has_text : Bool

abbrev flag : (short long : String) → OptionRow
flag short long =
    record { short = Some (slice_index (codes short) 0); long = codes long; has_text = false }

abbrev long_flag : (long : String) → OptionRow
long_flag long = record { short = None; long = codes long; has_text = false }

abbrev text : (short long : String) → OptionRow
text short long =
    record { short = Some (slice_index (codes short) 0); long = codes long; has_text = true }

-- One row for each option of a tool, and what it sets.
abbrev pub options_of : ToolName → List OptionRow
options_of SgInq =
    flag "e" "vpd"  -- EVPD
    ∷ text "p" "page"  -- EVPD and PAGE CODE
    ∷ text "l" "len"  -- ALLOCATION LENGTH
    ∷ flag "H" "hex"  -- hexadecimal digits are printed
    ∷ flag "i" "id"  -- EVPD, and the PAGE CODE of the device identification page
    ∷ []
options_of SgVpd =
    text "p" "page"  -- PAGE CODE
    ∷ flag "H" "hex"  -- hexadecimal digits are printed
    ∷ text "m" "maxlen"  -- ALLOCATION LENGTH
    ∷ []
options_of SgModes =
    flag "a" "all"  -- PAGE CODE 3Fh, as without it
    ∷ text "c" "control"  -- PC
    ∷ flag "d" "dbd"  -- DBD
    ∷ flag "L" "llbaa"  -- LLBAA
    ∷ text "p" "page"  -- PAGE CODE and SUBPAGE CODE
    ∷ long_flag "six"  -- MODE SENSE(6) in place of MODE SENSE(10)
    ∷ flag "H" "hex"  -- hexadecimal digits are printed
    ∷ []
options_of SgUnmap =
    text "l" "lba"  -- UNMAP LOGICAL BLOCK ADDRESS of each descriptor
    ∷ text "n" "num"  -- NUMBER OF LOGICAL BLOCKS of each descriptor
    ∷ flag "a" "anchor"  -- ANCHOR
    ∷ text "g" "grpnum"  -- GROUP NUMBER
    ∷ []
options_of SgGetLbaStatus =
    text "l" "lba"  -- STARTING LOGICAL BLOCK ADDRESS
    ∷ text "m" "maxlen"  -- ALLOCATION LENGTH
    ∷ flag "b" "brief"  -- no parameter data length is printed
    ∷ flag "H" "hex"  -- hexadecimal digits are printed
    ∷ []
options_of SgPersist =
    flag "k" "read-keys"  -- SERVICE ACTION, as the next ten
    ∷ flag "r" "read-reservation"
    ∷ flag "c" "report-capabilities"
    ∷ flag "s" "read-full-status"
    ∷ flag "G" "register"
    ∷ flag "I" "register-ignore"
    ∷ flag "R" "reserve"
    ∷ flag "L" "release"
    ∷ flag "C" "clear"
    ∷ flag "P" "preempt"
    ∷ flag "A" "preempt-abort"
    ∷ text "K" "param-rk"  -- RESERVATION KEY
    ∷ text "S" "param-sark"  -- SERVICE ACTION RESERVATION KEY
    ∷ text "T" "prout-type"  -- TYPE
    ∷ flag "Z" "param-aptpl"  -- APTPL
    ∷ flag "n" "no-inquiry"  -- nothing: no INQUIRY is sent in any case
    ∷ flag "i" "in"  -- nothing: PERSISTENT RESERVE IN is meant
    ∷ flag "o" "out"  -- nothing: PERSISTENT RESERVE OUT is meant
    ∷ []
options_of SgTurs = []
options_of SgRequests =
    flag "d" "desc"  -- DESC
    ∷ text "m" "maxlen"  -- ALLOCATION LENGTH
    ∷ flag "H" "hex"  -- hexadecimal digits are printed
    ∷ []
options_of SgLuns =
    text "s" "select"  -- SELECT REPORT
    ∷ text "m" "maxlen"  -- ALLOCATION LENGTH
    ∷ flag "H" "hex"  -- hexadecimal digits are printed
    ∷ []
options_of SgOpcodes =
    text "o" "opcode"  -- REPORTING OPTIONS and REQUESTED OPERATION CODE
    ∷ text "s" "sa"  -- REPORTING OPTIONS and REQUESTED SERVICE ACTION
    ∷ flag "R" "rctd"  -- RCTD
    ∷ flag "t" "tmf"  -- REPORT SUPPORTED TASK MANAGEMENT FUNCTIONS in place of the other command
    ∷ flag "q" "repd"  -- REPD and ALLOCATION LENGTH of that
    ∷ flag "n" "no-inquiry"  -- nothing: no INQUIRY is sent in any case
    ∷ flag "H" "hex"  -- hexadecimal digits are printed
    ∷ []
options_of SgLogs =
    text "p" "page"  -- PAGE CODE and SUBPAGE CODE
    ∷ text "P" "paramp"  -- PARAMETER POINTER
    ∷ text "m" "maxlen"  -- ALLOCATION LENGTH
    ∷ flag "H" "hex"  -- hexadecimal digits are printed
    ∷ []
options_of SgReadcap =
    long_flag "16"  -- READ CAPACITY(16) in place of READ CAPACITY(10)
    ∷ flag "l" "long"  -- the same
    ∷ flag "H" "hex"  -- hexadecimal digits are printed
    ∷ []
options_of SgSync =
    flag "S" "16"  -- SYNCHRONIZE CACHE(16) in place of SYNCHRONIZE CACHE(10)
    ∷ text "l" "lba"  -- LOGICAL BLOCK ADDRESS
    ∷ text "c" "count"  -- NUMBER OF LOGICAL BLOCKS
    ∷ []
options_of SgVerify =
    flag "S" "16"  -- VERIFY(16) in place of VERIFY(10)
    ∷ text "l" "lba"  -- LOGICAL BLOCK ADDRESS
    ∷ text "c" "count"  -- VERIFICATION LENGTH
    ∷ text "E" "ebytchk"  -- BYTCHK
    ∷ text "i" "in"  -- data-out
    ∷ flag "0" "0"  -- data-out: a block of zeros
    ∷ flag "f" "ff"  -- data-out: a block of FFh
    ∷ []
options_of SgCompareAndWrite =
    text "l" "lba"  -- LOGICAL BLOCK ADDRESS
    ∷ text "n" "num"  -- NUMBER OF LOGICAL BLOCKS
    ∷ text "i" "in"  -- data-out
    ∷ []
options_of SgWriteSame =
    flag "R" "10"  -- WRITE SAME(10)
    ∷ flag "S" "16"  -- WRITE SAME(16)
    ∷ text "l" "lba"  -- LOGICAL BLOCK ADDRESS
    ∷ text "n" "num"  -- NUMBER OF LOGICAL BLOCKS
    ∷ flag "a" "anchor"  -- ANCHOR
    ∷ flag "U" "unmap"  -- UNMAP
    ∷ flag "N" "ndob"  -- NDOB
    ∷ text "i" "in"  -- data-out
    ∷ flag "f" "ff"  -- data-out: a block of FFh in place of zeros
    ∷ []
options_of SgStart =
    flag "e" "eject"  -- LOEJ, and no START
    ∷ flag "l" "load"  -- LOEJ, and START
    ∷ flag "L" "loej"  -- LOEJ
    ∷ text "m" "mod"  -- POWER CONDITION MODIFIER
    ∷ text "p" "pc"  -- POWER CONDITION
    ∷ flag "s" "start"  -- START, as without it
    ∷ flag "S" "stop"  -- no START
    ∷ []

-- ---- The command line

-- A flag has no value, a text has one; each is given at most once.
abbrev pub rule : OptionRow → Rule
rule option = record (new_rule option.long) {
  long = Some option.long;
  short = option.short;
  action = Some (if option.has_text then Set else SetTrue);
}

unfoldable pub with_rules : App → List Rule → App
with_rules app [] = app
with_rules app (rule ∷ rules) = with_rules (with_rule app rule) rules

-- The command line of a tool, as clap parses it.
abbrev pub command_line : ToolName → App
command_line tool = with_rules (new_app (name_of tool)) (map rule (options_of tool))
