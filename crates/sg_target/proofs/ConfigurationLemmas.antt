-- What commands and happenings leave as it was: the configuration, and more.
use Rattle.std.proofs.Common.{◌≡◌, ℕ, false, List, Result, Ok, Err, refl, sym, arith}
use Rattle.std.proofs.lemmas.Bool.{false≢true}
use Rattle.sg_target.specs.Laws.{HasGrown, is_growth, is_power_cycle}
use Rattle.sg_target.specs.Effect.{Effect, returning_up_to}
use Rattle.sg_target.specs.Happenings.{after_happening}
use Rattle.sg_target.specs.ModeCommands.{changing_modes, mode_parameters, selected_modes}
use Rattle.sg_target.specs.Refusal.{when_sound}
use Rattle.sg_target.specs.ReservationCommands.{changing_reservations, reservation_change}
use Rattle.sg_target.specs.Semantics.{effect_of}
use Rattle.sg_target.specs.State.{State, config_of}
use Rattle.sg_target.specs.Step.{Step, outcome, refused, step}
use Rattle.sg_target.specs.declared.happening.Happening.{Happening}
use Rattle.sg_target.specs.declared.happening.Happening.TheVariants.{Grow, Power}
use Rattle.sg_target.specs.declared.operation.Operation.{Operation}
use Rattle.sg_target.specs.declared.operation.Operation.TheVariants.{ReturnModes, ChangeModes}
use Rattle.sg_target.specs.declared.operation.Operation.TheVariants.{ChangeReservations}
use Rattle.sg_target.specs.declared.refusal.Reason.TheVariants.{UnitAttention as Attention}
use Rattle.sg_target.specs.declared.refusal.Refusal.{Refusal}
use Rattle.sg_target.specs.declared.refusal.Refusal.TheVariants.{CheckCondition}
use Rattle.sg_target.proofs.GrowthLemmas.{by-growth}
use Rattle.sg_target.proofs.LiftLemmas.{lifted, outcome-by}

module _ (state : State) where
  -- an effect, if there is one, keeps it
  abbrev EffectKeeps : Result Effect Refusal → Type 0
  EffectKeeps (Ok effect) = config_of effect.after ≡ config_of state
  EffectKeeps (Err refusal) = Unit {0}

  sound-keeps : {A : Type 0} (sound : Result A Refusal) (becomes : A → Effect)
      → ((value : A) → config_of (becomes value).after ≡ config_of state)
      → EffectKeeps (when_sound sound becomes)
  sound-keeps (Ok value) becomes h = h value
  sound-keeps (Err refusal) becomes h = tt

  module _ (i : ℕ) where
    operation-keeps : (operation : Operation) → EffectKeeps (effect_of state i operation)
    operation-keeps (ReturnModes request n) =
        sound-keeps (mode_parameters state.modes request) (returning_up_to state n) (λ list. refl)
    operation-keeps (ChangeModes width sp list) =
        sound-keeps (selected_modes state width sp list) (changing_modes state i) (λ modes. refl)
    operation-keeps (ChangeReservations action scope_type list) =
        sound-keeps (reservation_change state i action scope_type list)
        (changing_reservations state i) (λ change. refl)
    operation-keeps _ = refl

    abbrev StepKeeps : Step → Type 0
    StepKeeps done = config_of done.state ≡ config_of state

    refused-keeps : (refusal : Refusal) → StepKeeps (refused state i refusal)
    refused-keeps (CheckCondition (Attention condition)) = refl
    refused-keeps _ = refl

    outcome-keeps : (effect : Result Effect Refusal) → EffectKeeps effect
        → StepKeeps (outcome state i effect)
    outcome-keeps (Ok effect) h = outcome-by state i StepKeeps effect refused-keeps (λ none. h)
    outcome-keeps (Err refusal) h = refused-keeps refusal

    pub step-keeps : (cdb data_out : List ℕ) → StepKeeps (step state i cdb data_out)
    step-keeps cdb data_out =
        lifted state i cdb data_out StepKeeps refused-keeps
        (λ operation asked. outcome-keeps (effect_of state i operation) (operation-keeps operation))

pub happening-keeps : (happening : Happening) (state : State) → is_growth happening ≡ false
    → config_of (after_happening happening state) ≡ config_of state
happening-keeps (Grow capacity) state h = absurd (false≢true (sym h))
happening-keeps _ state h = refl

-- ---- Growth

has-grown : (state : State) → HasGrown (config_of state) (config_of state)
has-grown state = record { blocks = omega arith; pool = refl; identity = refl }

pub growth-grows : (happening : Happening) (state : State)
    → HasGrown (config_of state) (config_of (after_happening happening state))
growth-grows (Grow capacity) state =
    by-growth (λ after. HasGrown (config_of state) (config_of after)) capacity state
    (λ more fits. record { blocks = more; pool = refl; identity = refl }) (has-grown state)
growth-grows _ state = has-grown state

-- ---- What a happening leaves

pub blocks-left : (happening : Happening) (state : State)
    → (after_happening happening state).disk.contents ≡ state.disk.contents
blocks-left (Grow capacity) state =
    by-growth (λ after. after.disk.contents ≡ state.disk.contents) capacity state
    (λ more fits. refl) refl
blocks-left _ state = refl

pub saved-left : (happening : Happening) (state : State)
    → (after_happening happening state).modes.saved ≡ state.modes.saved
saved-left (Grow capacity) state =
    by-growth (λ after. after.modes.saved ≡ state.modes.saved) capacity state
    (λ more fits. refl) refl
saved-left _ state = refl

pub reservations-left : (happening : Happening) (state : State) → is_power_cycle happening ≡ false
    → (after_happening happening state).reservations ≡ state.reservations
reservations-left Power state h = absurd (false≢true (sym h))
reservations-left (Grow capacity) state h =
    by-growth (λ after. after.reservations ≡ state.reservations) capacity state
    (λ more fits. refl) refl
reservations-left _ state h = refl
