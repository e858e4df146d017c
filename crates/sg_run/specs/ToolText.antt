-- The request that a text's words make to a tool: the words of a script's line without its
-- initiator.
use Rattle.std.specs.Prelude.{◌≡◌, ◌⊎◌, ℕ, List, Option, Some, None, Result, Ok, Err, Bool, true, false}
use Rattle.sg_tools.specs.Requests.{request, Request as ToolRequest}
use Rattle.sg_tools.specs.declared.tool.Tool.{Tool}
use Rattle.sg_tools.specs.declared.tool_fault.ToolFault.TheVariants.{OutOfMemory}
use Rattle.sg_tools.specs.declared.tool_name.ToolName.{ToolName}
use Rattle.sg_wire.specs.declared.profile.Profile.TheVariants.{Extended}
use Rattle.sg_run.specs.Request.{first_tool, unless_faulty}
use Rattle.sg_run.specs.Words.{words}
use Rattle.sg_run.specs.declared.request.text_fault.TextFault.{TextFault}
use Rattle.sg_run.specs.declared.request.text_fault.TextFault.TheVariants.{BadByte, TooManyWords}
use Rattle.sg_run.specs.declared.request.text_fault.TextFault.TheVariants.{UnknownTool, Refused}

-- A tool's fault is one of its text.
abbrev pub in_text : ToolRequest → Result Tool TextFault
in_text (Ok tool) = Ok tool
in_text (Err fault) = Err (Refused fault)

abbrev pub asked_of : Option ToolName → List (List ℕ) → Result Tool TextFault
asked_of None words = Err UnknownTool
asked_of (Some name) words = in_text (request name words)

abbrev pub by_tool_words : (text : List ℕ) → List (List ℕ) → Result Tool TextFault
by_tool_words text words =
    unless_faulty text words (Err BadByte) (Err TooManyWords)
    (asked_of (first_tool Extended words) words)

-- The first word is the tool's name. A text belongs to no disk, so each tool can be named.
unfoldable pub tool_of_text : List ℕ → Result Tool TextFault
tool_of_text text = by_tool_words text (words text)

-- Whether a text with this request names a tool, which takes memory to read its words.
abbrev pub names_tool : Result Tool TextFault → Bool
names_tool (Ok tool) = true
names_tool (Err (Refused fault)) = true
names_tool (Err fault) = false

-- The request of a text; or memory was refused, if the text names a tool.
abbrev pub IsReadUnlessOutOfMemory : (text : List ℕ) → Result Tool TextFault → Type 0
IsReadUnlessOutOfMemory text result =
    (result ≡ tool_of_text text)
    ⊎ ((result ≡ Err (Refused OutOfMemory)) × (names_tool (tool_of_text text) ≡ true))
