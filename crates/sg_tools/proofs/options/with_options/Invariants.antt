use Rattle.std.proofs.Common.{◌≡◌, map, take}
use Rattle.clap.specs.Words.{app_of}
use Rattle.sg_tools.specs.Options.{rule, with_rules}
use Rattle.sg_tools.specs.OptionTables.{option_rows}
use Rattle.sg_tools.proofs.options.with_options.Given as goal

-- the options so far are added
abbrev pub invariant-loop-option : goal.invariant-loop-option
invariant-loop-option l = app_of l.command ≡ with_rules (app_of l.fn.command)
    (map rule (option_rows (take l.option-index l.options)))
