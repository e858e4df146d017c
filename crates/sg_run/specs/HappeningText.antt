-- What a text asks for in the words of an extended disk's script: something that happens to a disk.
use Rattle.std.specs.Prelude.{ℕ, List, [], ◌∷◌, Option, Some, None, Result, Err, ok_or}
use Rattle.sg_wire.specs.declared.profile.Profile.TheVariants.{Extended}
use Rattle.sg_target.specs.declared.happening.Happening.{Happening}
use Rattle.sg_run.specs.Request.{unless_faulty}
use Rattle.sg_run.specs.Verbs.{happening_of, verb_named, verbs_of}
use Rattle.sg_run.specs.Words.{words}
use Rattle.sg_run.specs.declared.request.happening_text.HappeningFault.{HappeningFault}
use Rattle.sg_run.specs.declared.request.happening_text.HappeningFault.TheVariants.{BadByte}
use Rattle.sg_run.specs.declared.request.happening_text.HappeningFault.TheVariants.{TooManyWords}
use Rattle.sg_run.specs.declared.request.happening_text.HappeningFault.TheVariants.{UnknownVerb, Usage}
use Rattle.sg_run.specs.declared.request.happening_verb.HappeningVerb.{HappeningVerb}

abbrev pub asked_by : Option HappeningVerb → List (List ℕ) → Result Happening HappeningFault
asked_by None operands = Err UnknownVerb
asked_by (Some verb) operands = ok_or (happening_of verb operands) Usage

-- The first word is the verb.
abbrev pub by_verb_words : List (List ℕ) → Result Happening HappeningFault
by_verb_words [] = Err UnknownVerb
by_verb_words (verb ∷ operands) = asked_by (verb_named (verbs_of Extended) verb) operands

unfoldable pub happening_of_text : List ℕ → Result Happening HappeningFault
happening_of_text text =
    unless_faulty text (words text) (Err BadByte) (Err TooManyWords) (by_verb_words (words text))
