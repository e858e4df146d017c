use Rattle.std.proofs.Common.{◌≡◌, ℕ, Result, Ok, Err, refl, inl, inr}
use Rattle.sg_target.specs.Effect.{Effect}
use Rattle.sg_target.specs.Semantics.{effect_of}
use Rattle.sg_target.specs.State.{State}
use Rattle.sg_target.specs.Step.{Step, outcome, refused}
use Rattle.sg_target.specs.declared.refusal.Reason.TheVariants.{UnitAttention as Attention}
use Rattle.sg_target.specs.declared.refusal.Refusal.{Refusal}
use Rattle.sg_target.specs.declared.refusal.Refusal.TheVariants.{CheckCondition}
use Rattle.sg_target.specs.declared.reply.Status.TheVariants.{Good}
use Rattle.sg_target.proofs.LiftLemmas.{lifted, outcome-by}
use Rattle.sg_fencing.specs.Laws.{IsKept}
use Rattle.sg_fencing.proofs.laws.refused_changes_nothing.Goals as goal
use Rattle.sg_target.proofs.AlertLemmas.{by-no-alert}

refused-keeps : (state : State) (i : ℕ) (refusal : Refusal)
    → IsKept state (refused state i refusal).state i
refused-keeps state i (CheckCondition (Attention condition)) =
    record {
      identity = refl;
      disk = refl;
      modes = refl;
      reservations = refl;
      stopped = refl;
      attentions = inr refl;
    }
refused-keeps state i _ =
    record {
      identity = refl;
      disk = refl;
      modes = refl;
      reservations = refl;
      stopped = refl;
      attentions = inl refl;
    }

abbrev KeptUnlessGood : State → ℕ → Step → Type 0
KeptUnlessGood state i done = (done.answer.status ≡ Good → ⊥) → IsKept state done.state i

by-effect : (state : State) (i : ℕ) (effect : Result Effect Refusal)
    → KeptUnlessGood state i (outcome state i effect)
by-effect state i (Ok effect) h =
    outcome-by state i (KeptUnlessGood state i) effect (λ refusal h. refused-keeps state i refusal)
    (λ none h. absurd (h refl)) h
by-effect state i (Err refusal) h = refused-keeps state i refusal

pub returns : goal.returns
returns c state i cdb data_out =
    lifted state i cdb data_out (KeptUnlessGood state i) (λ refusal h. refused-keeps state i refusal)
    (λ operation k h.
    let kept = by-effect state i (effect_of state i operation) h in
    by-no-alert (λ (after : State). IsKept state after i) state i _ kept.disk kept)
