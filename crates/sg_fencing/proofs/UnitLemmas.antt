-- A command that does not change the unit changes only conditions of its initiator.
use Rattle.std.proofs.Common.{◌≡◌, ◌∙◌, ℕ, false, List, Result, Ok, Err, refl, sym, ap}
use Rattle.sg_units.specs.declared.unit_attention.UnitAttention.TheVariants.{ReportedLunsDataChanged}
use Rattle.sg_target.specs.Effect.{Effect, returning_up_to}
use Rattle.sg_target.specs.ModeCommands.{mode_parameters}
use Rattle.sg_target.specs.Refusal.{when_sound}
use Rattle.sg_target.specs.Semantics.{effect_of}
use Rattle.sg_target.specs.State.{State, config_of}
use Rattle.sg_target.specs.Step.{Step, outcome, refused}
use Rattle.sg_target.specs.declared.operation.Operation.{Operation}
use Rattle.sg_target.specs.declared.operation.Operation.TheVariants as operation
use Rattle.sg_target.specs.declared.refusal.Reason.TheVariants.{UnitAttention as Attention}
use Rattle.sg_target.specs.declared.refusal.Refusal.{Refusal}
use Rattle.sg_target.specs.declared.refusal.Refusal.TheVariants.{CheckCondition}
use Rattle.sg_target.proofs.LiftLemmas.{lifted, outcome-by}
use Rattle.sg_fencing.specs.Laws.{LeavesTheUnit, OtherCommandsLeaveTheUnit, may_change_unit}
use Rattle.sg_fencing.proofs.HolderLemmas.{cleared-other, without-other}
use Rattle.sg_fencing.proofs.ReadLemmas.{asked-reads, changes_unit}
use Rattle.sg_target.proofs.AlertLemmas.{by-no-alert}

module _ (state : State) (i : ℕ) where
  abbrev Leaves : Result Effect Refusal → Type 0
  Leaves (Ok effect) = LeavesTheUnit i state effect.after
  Leaves (Err refusal) = Unit {0}

  stays : LeavesTheUnit i state state
  stays = record { rest = refl; others = λ other different. refl }

  refused-leaves : (refusal : Refusal) → LeavesTheUnit i state (refused state i refusal).state
  refused-leaves (CheckCondition (Attention condition)) = record {
    rest = refl;
    others = λ other different. cleared-other state.attentions other i (λ e. different (sym e));
  }
  refused-leaves _ = stays

  modes-leave : (n : ℕ) (list : Result (List ℕ) Refusal)
      → Leaves (when_sound list (returning_up_to state n))
  modes-leave n (Ok list) = stays
  modes-leave n (Err refusal) = tt

  operation-leaves : (asked : Operation) → changes_unit asked ≡ false → Leaves (effect_of state i asked)
  operation-leaves (operation.ReturnSense format n) h = record {
    rest = refl;
    others = λ other different. cleared-other state.attentions other i (λ e. different (sym e));
  }
  operation-leaves (operation.ReturnModes request n) h =
      modes-leave n (mode_parameters state.modes request)
  operation-leaves (operation.ReturnLuns listed n) h = record {
    rest = refl;
    others =
        λ other different. without-other state.attentions other i (λ e. different (sym e))
        ReportedLunsDataChanged;
  }
  operation-leaves operation.Nothing h = stays
  operation-leaves operation.TestReady h = stays
  operation-leaves (operation.ReturnInquiry page n) h = stays
  operation-leaves (operation.ReturnReport report n) h = stays
  operation-leaves operation.ReturnCapacity10 h = stays
  operation-leaves (operation.ReturnCapacity16 n) h = stays
  operation-leaves (operation.Read extent) h = stays
  operation-leaves (operation.Verify extent) h = stays
  operation-leaves (operation.Compare out) h = stays
  operation-leaves (operation.CompareEach extent block) h = stays
  operation-leaves (operation.PreFetch extent) h = stays
  operation-leaves (operation.Synchronize extent) h = stays
  operation-leaves (operation.MarkBad lba cor_dis) h = stays
  operation-leaves (operation.ReturnLbaStatus start n) h = stays
  operation-leaves (operation.ReturnReservations action n) h = stays
  operation-leaves _ h = cc

  effect-leaves : (effect : Result Effect Refusal) → Leaves effect
      → LeavesTheUnit i state (outcome state i effect).state
  effect-leaves (Ok effect) h =
      outcome-by state i (λ (done : Step). LeavesTheUnit i state done.state) effect refused-leaves
      (λ none. h)
  effect-leaves (Err refusal) h = refused-leaves refusal

pub unit-left : OtherCommandsLeaveTheUnit
unit-left state i cdb data_out other =
    lifted state i cdb data_out (λ (done : Step). LeavesTheUnit i state done.state)
    (refused-leaves state i)
    (λ asked k.
    let reads = asked-reads (config_of state) k.command data_out asked k.operation_is in
    let left = effect-leaves state i (effect_of state i asked)
    (operation-leaves state i asked (reads.leaves (sym (ap may_change_unit k.command_is) ∙ other))) in
    by-no-alert (LeavesTheUnit i state) state i _ (ap (λ (s : State). s.disk) left.rest) left)
