-- The options of the program (docs/SCRIPT.md).
use Rattle.std.specs.Prelude.{List, [], ◌∷◌, ◌++◌, map, codes, None, true}
use Rattle.clap.specs.Words.{App, Text, new_app}
use Rattle.sg_tools.specs.Options.{OptionRow, rule, with_rules}

-- An option without a short name, which has a text.
abbrev pub text_option : (long : Text) → OptionRow
text_option long = record { short = None; long = long; has_text = true }

-- One row for each option of a run, and what it sets.
abbrev pub run_options : List OptionRow
run_options =
    text_option (codes "blocks")  -- the number of logical blocks
    ∷ text_option (codes "pool")  -- how many of them can be mapped or anchored at once
    ∷ text_option (codes "profile")  -- which commands it has
    ∷ text_option (codes "seed")  -- what its names are made of
    ∷ text_option (codes "disk")  -- the file that keeps the disk
    ∷ text_option (codes "script")  -- the file that holds the script
    ∷ []

-- Another option is the file whose disk is shown. Then nothing is run.
abbrev pub options : List OptionRow
options = run_options ++ text_option (codes "show-disk") ∷ []

-- The command line of the program, as clap parses it.
abbrev pub command_line : App
command_line = with_rules (new_app (codes "sgrun")) (map rule options)
