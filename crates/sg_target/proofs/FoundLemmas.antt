-- What an operation finds on its way.
use Rattle.std.proofs.Common.{◌≡◌, ℕ, Bool, true, false, cond, Option, Some, None, Result, Ok, Err}
use Rattle.std.proofs.Common.{[], ◌∷◌, refl, ap, subst, ◌∙◌}
use Rattle.std.specs.FinMap.{len}
use Rattle.std.specs.Option.{option_map_or}
use Rattle.std.specs.Prelude.{nat_lt}
use Rattle.sg_store.specs.Disk.{Disk}
use Rattle.sg_target.specs.Checks.{checked_cdb}
use Rattle.sg_target.specs.Effect.{Effect, no_space}
use Rattle.sg_target.specs.Laws.{FoundRefusalsChangeNothing}
use Rattle.sg_target.specs.Refusal.{checked_next, when_sound}
use Rattle.sg_target.specs.Semantics.{effect_of}
use Rattle.sg_target.specs.State.{State}
use Rattle.sg_target.specs.Step.{after_refusal, executed, outcome, refusal_answer, refused}
use Rattle.sg_target.specs.Step.{sense_format, with_alert}
use Rattle.sg_target.specs.declared.operation.Operation.{Operation}
use Rattle.sg_target.specs.declared.operation.Operation.TheVariants as operation
use Rattle.sg_target.specs.BlockCommands.{miscompare}
use Rattle.sg_target.specs.Refusal.{first_some}
use Rattle.sg_target.specs.declared.refusal.Reason.TheVariants.{Miscompare, SpaceAllocationFailed}
use Rattle.sg_target.specs.declared.refusal.Refusal.{Refusal}
use Rattle.sg_target.specs.declared.refusal.Refusal.TheVariants.{CheckCondition}
use Rattle.sg_target.proofs.AlertLemmas.{refused-no-alert}

module _ (state : State) (i : ℕ) where
  -- a refusal that reports no unit attention
  abbrev Keeps : Option Refusal → Type 0
  Keeps found = (refusal : Refusal) → found ≡ Some refusal → after_refusal state i refusal ≡ state

  space-keeps : (lacks : Bool)
      → Keeps (cond {A = Option Refusal} lacks (Some (CheckCondition SpaceAllocationFailed)) None)
  space-keeps true refusal e =
      let same : CheckCondition SpaceAllocationFailed ≡ refusal = cc in
      subst (λ (r : Refusal). after_refusal state i r ≡ state) same refl
  space-keeps false refusal e = cc

  no-space-keeps : (after : Disk) → Keeps (no_space after)
  unfolding no_space
  no-space-keeps after = space-keeps (nat_lt after.pool (len after.contents))

  difference-keeps : (difference : Option ℕ) → Keeps (miscompare difference)
  difference-keeps None refusal e = cc
  difference-keeps (Some offset) refusal e =
      let same : CheckCondition (Miscompare offset) ≡ refusal = cc in
      subst (λ (r : Refusal). after_refusal state i r ≡ state) same refl

  last-keeps : (found : Option Refusal) → Keeps found → Keeps (first_some (found ∷ []))
  last-keeps None h refusal e = cc
  last-keeps (Some first) h refusal e = h refusal e

  exchange-keeps : (difference : Option ℕ) (found : Option Refusal) → Keeps found
      → Keeps (first_some (miscompare difference ∷ found ∷ []))
  exchange-keeps None found h = last-keeps found h
  exchange-keeps (Some offset) found h = difference-keeps (Some offset)

  none-keeps : Keeps None
  none-keeps refusal e = cc

  abbrev EffectKeeps : Result Effect Refusal → Type 0
  EffectKeeps (Ok effect) = Keeps effect.found
  EffectKeeps (Err refusal) = Unit {0}

  sound-keeps : {A : Type 0} (sound : Result A Refusal) (becomes : A → Effect)
      → ((value : A) → Keeps (becomes value).found) → EffectKeeps (when_sound sound becomes)
  sound-keeps (Ok value) becomes h = h value
  sound-keeps (Err refusal) becomes h = tt

  operation-keeps : (o : Operation) → EffectKeeps (effect_of state i o)
  operation-keeps (operation.Write out) = no-space-keeps _
  operation-keeps (operation.Compare out) = difference-keeps _
  operation-keeps (operation.CompareEach extent block) = difference-keeps _
  operation-keeps (operation.CompareAndWrite exchange) = exchange-keeps _ _ (no-space-keeps _)
  operation-keeps (operation.OrWrite out) = no-space-keeps _
  operation-keeps (operation.Copy segment) = no-space-keeps _
  operation-keeps (operation.Fill extent block) = no-space-keeps _
  operation-keeps (operation.Anchor extents) = no-space-keeps _
  operation-keeps (operation.AnchorExtent extent) = no-space-keeps _
  operation-keeps (operation.ReturnModes request n) = sound-keeps _ _ (λ list. none-keeps)
  operation-keeps (operation.ChangeModes width sp list) = sound-keeps _ _ (λ modes. none-keeps)
  operation-keeps (operation.ChangeReservations action scope_type list) =
      sound-keeps _ _ (λ change. none-keeps)
  operation-keeps _ = none-keeps

  checked-keeps : (checked : Result Operation Refusal)
      → EffectKeeps (checked_next checked (effect_of state i))
  checked-keeps (Ok o) = operation-keeps o
  checked-keeps (Err refusal) = tt

pub found-changes-nothing : FoundRefusalsChangeNothing
found-changes-nothing state i cdb data_out effect refusal e found =
    let keeps : EffectKeeps state i (Ok effect) =
    subst (EffectKeeps state i) e (checked-keeps state i (checked_cdb state i cdb data_out)) in
    let same = keeps refusal found in
    ap (λ (r : Result Effect Refusal). with_alert state i (outcome state i r)) e
    ∙ (ap
    (λ (f : Option Refusal). with_alert state i (option_map_or (refused state i) f (executed effect)))
    found
    ∙ (refused-no-alert state i refusal
    ∙ (λ d. record { answer = refusal_answer (sense_format state) refusal; state = same d })))
