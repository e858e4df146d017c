use Rattle.std.proofs.Common.{◌≡◌, ap, sym, ◌∙◌, List, [], ◌∷◌, true, refl, Ok, Err, inl, inr}
use Rattle.std.proofs.lemmas.Bool.{and_parts}
use Rattle.clap.specs.Words.{App, IsAmong, Kinds, Row, Text, app_of, built, fault_of, is_simple}
use Rattle.clap.specs.Words.{matches_of}
use Rattle.clap.specs.Faults.{is_free_app}
use Rattle.clap.specs.declared.error.ErrorKind.{ErrorKind}
use Rattle.sg_tools.specs.GivenOptions.{given_options, is_refused}
use Rattle.sg_tools.specs.declared.tool_fault.ToolFault.TheVariants.{Usage}
use Rattle.sg_tools.proofs.given_options.GivenOptions.of_words.Goals as goal

-- if there is no fault, the rows are the answer
given_options-ok : (a : App) (words : List Text) (rows : List Row)
    → fault_of a words ≡ [] → rows ≡ matches_of a words → given_options a words ≡ Ok rows
unfolding given_options
given_options-ok a words rows none same = rw none (ap (λ (xs : List Row). Ok xs) (sym same))

refused : (kinds : Kinds) (k : ErrorKind) → IsAmong k kinds → is_refused kinds ≡ true
refused [] k among = absurd among
refused (x ∷ xs) k among = refl

-- if there is a fault, it is usage
given_options-err : (a : App) (words : List Text) (k : ErrorKind)
    → IsAmong k (fault_of a words) → given_options a words ≡ Err Usage
unfolding given_options
given_options-err a words k among = rw (refused (fault_of a words) k among) refl

pub returns-in-Ok : goal.returns-in-Ok
returns-in-Ok g c =
    let line = app_of c.args.line in
    let plain = and_parts (is_simple line) (is_free_app (built line)) c.requires in
    given_options-ok line _ _ (c.in-Ok.ensures.kinds c.requires) (c.in-Ok.ensures.matches plain.0).0

pub returns : goal.returns
returns g c =
    elim (c.in-Err.ensures.kinds c.requires) [
      | inl memory ↦ absurd (c.in_default.not-OutOfMemory (c.kind.ensures ∙ memory))
      | inr among ↦ given_options-err (app_of c.args.line) _ _ among
    ]
