use Rattle.std.proofs.Common.{◌≡◌, ℕ, Result, Ok, Err, refl, ap}
use Rattle.sg_target.specs.Effect.{Effect}
use Rattle.sg_target.specs.Semantics.{effect_of}
use Rattle.sg_target.specs.State.{State}
use Rattle.sg_target.specs.Step.{Step, outcome, refused}
use Rattle.sg_target.specs.declared.refusal.Refusal.{Refusal}
use Rattle.sg_target.specs.declared.refusal.Refusal.TheVariants as refusal
use Rattle.sg_target.specs.declared.reply.Status.TheVariants.{ReservationConflict}
use Rattle.sg_target.proofs.AlertLemmas.{by-no-alert}
use Rattle.sg_target.proofs.LiftLemmas.{lifted, outcome-by}
use Rattle.sg_fencing.proofs.laws.conflict_changes_nothing.Goals as goal

abbrev StaysIfConflict : State → Step → Type 0
StaysIfConflict state done = done.answer.status ≡ ReservationConflict → done.state ≡ state

refused-stays : (state : State) (i : ℕ) (refusal : Refusal)
    → StaysIfConflict state (refused state i refusal)
refused-stays state i refusal.Conflict e = refl
refused-stays state i (refusal.CheckCondition reason) e = cc
refused-stays state i refusal.Busy e = cc
refused-stays state i refusal.TaskSetFull e = cc
refused-stays state i refusal.NoReply e = cc
refused-stays state i (refusal.DeferredError code) e = cc

outcome-stays : (state : State) (i : ℕ) (effect : Result Effect Refusal)
    → StaysIfConflict state (outcome state i effect)
outcome-stays state i (Ok effect) =
    outcome-by state i (StaysIfConflict state) effect (refused-stays state i) (λ none e. cc)
outcome-stays state i (Err refusal) = refused-stays state i refusal

pub returns : goal.returns
returns c state i cdb data_out =
    lifted state i cdb data_out (StaysIfConflict state) (refused-stays state i)
    (λ operation k e.
    let same = outcome-stays state i (effect_of state i operation) e in
    by-no-alert (λ (after : State). after ≡ state) state i _ (ap (λ (s : State). s.disk) same) same)
