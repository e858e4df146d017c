-- The requests that words make, from the options that they give.
use Rattle.std.proofs.Common.{◌≡◌, List, Result, Ok, Err, sym, ap, ◌∙◌, inl, inr}
use Rattle.clap.specs.Words.{App, Row, Text}
use Rattle.sg_tools.specs.GivenOptions.{given_options}
use Rattle.sg_tools.specs.GivenOptions.{IsUnlessOutOfMemory as GivesUnlessOutOfMemory}
use Rattle.sg_tools.specs.declared.tool_fault.ToolFault.{ToolFault}
use Rattle.sg_tools.specs.declared.tool_fault.ToolFault.TheVariants.{Usage, Number, Exclusive}
use Rattle.sg_tools.specs.declared.tool_fault.ToolFault.TheVariants.{OutOfMemory}
use Rattle.sgrun.specs.Arguments.{ArgumentFields, IsUnlessOutOfMemory, arguments, arguments_by}
use Rattle.sgrun.specs.Arguments.{arguments_of}
use Rattle.sgrun.specs.Options.{command_line}
use Rattle.sgrun.specs.Stops.{stop_of_options}
use Rattle.sgrun.specs.declared.stop.Stop.{Stop}

by_given : (app : App) (words : List Text) (given : Result (List Row) ToolFault)
    → app ≡ command_line → given_options app words ≡ given
    → arguments_by given ≡ arguments words
unfolding arguments
by_given app words given line is =
    sym (ap arguments_by (ap (λ (a : App). given_options a words) (sym line) ∙ is))

pub asked : (app : App) (words : List Text) (rows : List Row) (r : Result ArgumentFields Stop)
    → app ≡ command_line → given_options app words ≡ Ok rows → r ≡ arguments_of rows
    → IsUnlessOutOfMemory (arguments words) r
asked app words rows r line given is = inl (is ∙ by_given app words (Ok rows) line given)

pub refused : (app : App) (words : List Text) (fault : ToolFault) (r : Result ArgumentFields Stop)
    → app ≡ command_line → GivesUnlessOutOfMemory (given_options app words) (Err fault)
    → r ≡ Err (stop_of_options fault)
    → IsUnlessOutOfMemory (arguments words) r
refused app words Usage r line given is = inl (is ∙ by_given app words (Err Usage) line given)
refused app words Number r line given is = inl (is ∙ by_given app words (Err Number) line given)
refused app words Exclusive r line given is =
    inl (is ∙ by_given app words (Err Exclusive) line given)
refused app words OutOfMemory r line given is = inr is
