-- What the words of a script ask for, as C gets it: something that happens to a disk.
use Rattle.std.specs.Prelude.{ℕ, List, Result, Ok, Err}
use Rattle.sg_target.specs.declared.happening.Happening.{Happening}
use Rattle.sg_run.specs.HappeningText.{happening_of_text}
use Rattle.sg_run.specs.declared.request.happening_text.HappeningFault.{HappeningFault}
use Rattle.sg_run.specs.declared.request.happening_text.HappeningFault.TheVariants as fault
use Rattle.sg_embed.specs.declared.outcome.Outcome.{Outcome}
use Rattle.sg_embed.specs.declared.outcome.Outcome.TheVariants.{BadByte, TooManyWords, UnknownVerb}
use Rattle.sg_embed.specs.declared.outcome.Outcome.TheVariants.{Usage}

abbrev pub words_outcome : HappeningFault → Outcome
words_outcome fault.BadByte = BadByte
words_outcome fault.TooManyWords = TooManyWords
words_outcome fault.UnknownVerb = UnknownVerb
words_outcome fault.Usage = Usage

abbrev pub asked_or_refused : Result Happening HappeningFault → Result Happening Outcome
asked_or_refused (Ok happening) = Ok happening
asked_or_refused (Err fault) = Err (words_outcome fault)

abbrev pub asked_by_words : (text : List ℕ) → Result Happening Outcome
asked_by_words text = asked_or_refused (happening_of_text text)
