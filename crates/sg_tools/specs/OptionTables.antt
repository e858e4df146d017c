-- The rows of the code's tables, seen as the rows of the definitions.
use Rattle.std.specs.Prelude.{List, map, Some, None, true, false}
use Rattle.sg_tools.specs.Options.{OptionRow}
use Rattle.sg_tools.specs.Requests.{ActionFlag as ActionRow}
use Rattle.sg_tools.specs.declared.options.ToolOption.{ToolOption}
use Rattle.sg_tools.specs.declared.options.ToolOption.TheVariants.{Flag, LongFlag, Text}
use Rattle.sg_tools.specs.declared.service_action.ActionFlag.{ActionFlag}

abbrev pub option_row : ToolOption → OptionRow
option_row (Flag short long) = record { short = Some short; long = long.now; has_text = false }
option_row (LongFlag long) = record { short = None; long = long.now; has_text = false }
option_row (Text short long) = record { short = Some short; long = long.now; has_text = true }

abbrev pub option_rows : List ToolOption → List OptionRow
option_rows options = map option_row options

abbrev pub action_row : ActionFlag → ActionRow
action_row flag = record { flag = flag.0.now; action = flag.1 }

abbrev pub action_rows : List ActionFlag → List ActionRow
action_rows flags = map action_row flags
