-- The verbs for what happens to a disk, by their words, and what each asks for (docs/SCRIPT.md).
use Rattle.std.specs.Prelude.{ℕ, List, [], ◌∷◌, codes, Option, Some, None, if◌then◌else◌}
use Rattle.std.specs.Str.{bytes_eq}
use Rattle.sg_wire.specs.declared.profile.Profile.{Profile}
use Rattle.sg_wire.specs.declared.profile.Profile.TheVariants.{Base, Extended}
use Rattle.sg_target.specs.declared.happening.Happening.{Happening}
use Rattle.sg_run.specs.FaultVerbs.{fault_of, heal_of}
use Rattle.sg_run.specs.HappeningVerbs.{attention_of, grow_of, nexus_of, power_of, reset_of}
use Rattle.sg_run.specs.declared.request.happening_verb.HappeningVerb.{HappeningVerb}
use Rattle.sg_run.specs.declared.request.happening_verb.HappeningVerb.TheVariants.{Power, Reset}
use Rattle.sg_run.specs.declared.request.happening_verb.HappeningVerb.TheVariants.{Nexus, Grow}
use Rattle.sg_run.specs.declared.request.happening_verb.HappeningVerb.TheVariants.{Attention, Fault}
use Rattle.sg_run.specs.declared.request.happening_verb.HappeningVerb.TheVariants.{Heal}

-- A verb, by its word.
pub record VerbWord : Type 0 where
  pub text : List ℕ
  pub verb : HappeningVerb

abbrev word : List ℕ → HappeningVerb → VerbWord
word text verb = record { text = text; verb = verb }

abbrev pub extended_verbs : List VerbWord
extended_verbs =
    word (codes "reset") Reset
    ∷ word (codes "nexus") Nexus
    ∷ word (codes "grow") Grow
    ∷ word (codes "attention") Attention
    ∷ word (codes "fault") Fault
    ∷ word (codes "heal") Heal
    ∷ []

-- The verbs of a disk of a profile.
abbrev pub verbs_of : Profile → List VerbWord
verbs_of Base = word (codes "power") Power ∷ []
verbs_of Extended = word (codes "power") Power ∷ extended_verbs

abbrev pub verb_named : List VerbWord → List ℕ → Option HappeningVerb
verb_named [] text = None
verb_named (row ∷ rows) text = if bytes_eq text row.text then Some row.verb else verb_named rows text

-- What a verb asks for, by its operands. None if they are others than it takes.
abbrev pub happening_of : HappeningVerb → List (List ℕ) → Option Happening
happening_of Power operands = power_of operands
happening_of Reset operands = reset_of operands
happening_of Nexus operands = nexus_of operands
happening_of Grow operands = grow_of operands
happening_of Attention operands = attention_of operands
happening_of Fault operands = fault_of operands
happening_of Heal operands = heal_of operands
