-- The result of `clap` for words: options with their texts, or a refusal.
use Rattle.std.specs.Prelude.{◌≡◌, List, [], ◌∷◌, Option, Some, None, Result, Ok, Err, Bool, true}
use Rattle.std.specs.Prelude.{false, codes, if◌then◌else◌}
use Rattle.std.specs.Str.{bytes_eq}
use Rattle.clap.specs.Words.{App, Row, Text, Kinds, fault_of, first_of, matches_of}
use Rattle.sg_tools.specs.declared.tool_fault.ToolFault.{ToolFault}
use Rattle.sg_tools.specs.declared.tool_fault.ToolFault.TheVariants.{Usage, Number, Exclusive}
use Rattle.sg_tools.specs.declared.tool_fault.ToolFault.TheVariants.{OutOfMemory}

abbrev pub is_refused : Kinds → Bool
is_refused [] = false
is_refused (kind ∷ kinds) = true

-- The options that clap finds in the words, unless it refuses them. It refuses a request for help
-- too.
unfoldable pub given_options : App → List Text → Result (List Row) ToolFault
given_options app words =
    if is_refused (fault_of app words) then Err Usage else Ok (matches_of app words)

-- The text of an option, if it is given.
abbrev pub text_of : Text → List Row → Option Text
text_of option rows = first_of option rows

abbrev pub is_true : Option Text → Bool
is_true None = false
is_true (Some text) = bytes_eq text (codes "true")

-- Whether a flag is given.
abbrev pub is_set : Text → List Row → Bool
is_set option rows = is_true (first_of option rows)

-- The result is the expected one, unless memory was refused.
abbrev pub IsUnlessOutOfMemory : {A : Type 0} → Result A ToolFault → Result A ToolFault → Type 0
IsUnlessOutOfMemory expected (Ok value) = expected ≡ Ok value
IsUnlessOutOfMemory expected (Err OutOfMemory) = Unit {0}
IsUnlessOutOfMemory expected (Err Usage) = expected ≡ Err Usage
IsUnlessOutOfMemory expected (Err Number) = expected ≡ Err Number
IsUnlessOutOfMemory expected (Err Exclusive) = expected ≡ Err Exclusive
