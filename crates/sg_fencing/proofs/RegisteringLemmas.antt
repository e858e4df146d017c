-- An initiator becomes registered only by a command that asks for it and ends with GOOD.
use Rattle.std.proofs.Common.{◌≡◌, ℕ, zero, suc, Bool, true, false, List, [], ◌∷◌}
use Rattle.std.proofs.Common.{Result, Ok, Err, refl, sym, ◌∙◌, subst}
use Rattle.std.proofs.lemmas.Bool.{false≢true}
use Rattle.sg_wire.specs.CdbDecoding.{command_of}
use Rattle.sg_target.specs.Effect.{Effect}
use Rattle.sg_target.specs.Runs.{all_calls, step_of}
use Rattle.sg_target.specs.Semantics.{effect_of}
use Rattle.sg_target.specs.State.{State}
use Rattle.sg_target.specs.Step.{Step, outcome, refused, step}
use Rattle.sg_target.specs.declared.call.Call.{Call}
use Rattle.sg_target.specs.declared.refusal.Reason.TheVariants.{UnitAttention as Attention}
use Rattle.sg_target.specs.declared.refusal.Refusal.{Refusal}
use Rattle.sg_target.specs.declared.refusal.Refusal.TheVariants.{CheckCondition}
use Rattle.sg_target.specs.declared.reply.Status.TheVariants.{Good}
use Rattle.sg_fencing.specs.Registrants.{IsNeverGranted, Registers, StaysUnregistered}
use Rattle.sg_fencing.specs.Registrants.{asks_to_register, is_registrant, rules_for}
use Rattle.sg_target.proofs.LiftLemmas.{lifted, outcome-by}
use Rattle.sg_fencing.proofs.OutsiderLemmas.{stays-unknown}

-- ---- One command

module _ (state : State) (i j : ℕ) (unknown : is_registrant state i ≡ false) where
  abbrev GoodIfKnown : Step → Type 0
  GoodIfKnown done = is_registrant done.state i ≡ true → done.answer.status ≡ Good

  refused-good : (refusal : Refusal) → GoodIfKnown (refused state j refusal)
  refused-good (CheckCondition (Attention condition)) known = absurd (false≢true (sym unknown ∙ known))
  refused-good _ known = absurd (false≢true (sym unknown ∙ known))

  by-effect : (effect : Result Effect Refusal) → GoodIfKnown (outcome state j effect)
  by-effect (Ok effect) known =
      outcome-by state j GoodIfKnown effect refused-good (λ none known. refl) known
  by-effect (Err refusal) known = refused-good refusal known

  module _ (cdb data_out : List ℕ)
      (known : is_registrant (step state j cdb data_out).state i ≡ true) where
    is-good : (step state j cdb data_out).answer.status ≡ Good
    is-good =
        lifted state j cdb data_out GoodIfKnown refused-good
        (λ operation k. by-effect (effect_of state j operation)) known

    abbrev asked : Bool
    asked = asks_to_register (rules_for state) j i (command_of cdb) data_out

    -- it is a command that asks to register i
    asks-by : (b : Bool) → asked ≡ b → asked ≡ true
    asks-by true e = e
    asks-by false e =
        absurd (false≢true (sym (stays-unknown state i j unknown cdb data_out e) ∙ known))

    pub registers-it : Registers state i j cdb data_out
    registers-it = record { asks = asks-by asked refl; good = is-good }

-- ---- Lists of commands

unless-known : (known : Bool) → (known ≡ true → ⊥) → known ≡ false
unless-known true h = absurd (h refl)
unless-known false h = refl

pub unknown-after-call : (state : State) (i : ℕ) (call : Call) → is_registrant state i ≡ false
    → (asks_to_register (rules_for state) call.initiator i (command_of call.cdb.now) call.data_out.now ≡ true
    → (step_of state call).answer.status ≡ Good → ⊥)
    → is_registrant (step_of state call).state i ≡ false
unknown-after-call state i call unknown refused =
    unless-known (is_registrant (step_of state call).state i)
    (λ known.
    let it = registers-it state i call.initiator unknown call.cdb.now call.data_out.now known in
    refused it.asks it.good)

pub refused-stay : (state : State) (i : ℕ) (calls : List Call) → is_registrant state i ≡ false
    → IsNeverGranted i state (all_calls calls) → StaysUnregistered i state calls
refused-stay state i [] unknown refused n call e from = cc
refused-stay state i (first ∷ calls) unknown refused zero call e from =
    let same : first ≡ call = cc in (
      unknown,
      subst (λ (c : Call). is_registrant (step_of state c).state i ≡ false) same
          (unknown-after-call state i first unknown (refused 0 first refl)),
    )
refused-stay state i (first ∷ calls) unknown refused (suc n) call e from =
    refused-stay (step_of state first).state i calls
    (unknown-after-call state i first unknown (refused 0 first refl))
    (λ m other at. refused (suc m) other at) n call e from
