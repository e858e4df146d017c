-- Operations and commands that leave the disk as it is.
use Rattle.std.proofs.Common.{◌≡◌, ℕ, Result, Ok, Err, false, refl, sym, ap}
use Rattle.std.proofs.Common.{◌∙◌}
use Rattle.sg_store.specs.Disk.{Disk}
use Rattle.sg_target.specs.Effect.{Effect, returning_up_to}
use Rattle.sg_target.specs.ModeCommands.{changing_modes, mode_parameters, selected_modes}
use Rattle.sg_target.specs.Refusal.{when_sound}
use Rattle.sg_target.specs.ReservationCommands.{changing_reservations, reservation_change}
use Rattle.sg_target.specs.Semantics.{effect_of, medium_use}
use Rattle.sg_target.specs.State.{State, config_of}
use Rattle.sg_target.specs.declared.operation.Operation.{Operation}
use Rattle.sg_target.specs.declared.operation.Operation.TheVariants.{ReturnModes, ChangeModes}
use Rattle.sg_target.specs.declared.operation.Operation.TheVariants.{ChangeReservations, MarkBad}
use Rattle.sg_target.specs.declared.refusal.Refusal.{Refusal}
use Rattle.sg_target.specs.Step.{Step, outcome, refused}
use Rattle.sg_target.specs.declared.refusal.Reason.TheVariants.{UnitAttention as Attention}
use Rattle.sg_target.specs.declared.refusal.Refusal.TheVariants.{CheckCondition}
use Rattle.sg_target.proofs.LiftLemmas.{lifted, outcome-by}
use Rattle.sg_fencing.specs.Laws.{OtherCommandsLeaveTheDisk, may_change_blocks}
use Rattle.sg_fencing.proofs.ReadLemmas.{asked-reads, changes_blocks}

-- ---- An operation

-- an effect, if there is one, leaves the disk
abbrev pub Leaves : Disk → Result Effect Refusal → Type 0
Leaves disk (Ok effect) = effect.after.disk ≡ disk
Leaves disk (Err refusal) = Unit {0}

sound-leaves : {A : Type 0} (disk : Disk) (sound : Result A Refusal) (becomes : A → Effect)
    → ((value : A) → (becomes value).after.disk ≡ disk) → Leaves disk (when_sound sound becomes)
sound-leaves disk (Ok value) becomes h = h value
sound-leaves disk (Err refusal) becomes h = tt

pub operation-leaves : (state : State) (i : ℕ) (operation : Operation)
    → changes_blocks operation ≡ false → Leaves state.disk (effect_of state i operation)
operation-leaves state i (ReturnModes request n) h =
    sound-leaves state.disk (mode_parameters state.modes request) (returning_up_to state n) (λ list. refl)
operation-leaves state i (ChangeModes width sp list) h =
    sound-leaves state.disk (selected_modes state width sp list) (changing_modes state i)
    (λ modes. refl)
operation-leaves state i (ChangeReservations action scope_type list) h =
    sound-leaves state.disk (reservation_change state i action scope_type list)
    (changing_reservations state i) (λ change. refl)
operation-leaves state i (MarkBad lba cor_dis) h = refl
operation-leaves state i _ h = cc

-- an operation that does not write to the medium changes none
pub changes-none : (operation : Operation) → (medium_use operation).writes ≡ false
    → changes_blocks operation ≡ false
changes-none (MarkBad lba cor_dis) h = refl
changes-none _ h = h

-- ---- A command

pub refused-leaves : (state : State) (i : ℕ) (refusal : Refusal)
    → (refused state i refusal).state.disk ≡ state.disk
refused-leaves state i (CheckCondition (Attention condition)) = refl
refused-leaves state i _ = refl

pub effect-leaves : (state : State) (i : ℕ) (effect : Result Effect Refusal) → Leaves state.disk effect
    → (outcome state i effect).state.disk ≡ state.disk
effect-leaves state i (Ok effect) h =
    outcome-by state i (λ (done : Step). done.state.disk ≡ state.disk) effect (refused-leaves state i)
    (λ none. h)
effect-leaves state i (Err refusal) h = refused-leaves state i refusal

pub command-leaves : OtherCommandsLeaveTheDisk
command-leaves state i cdb data_out other =
    lifted state i cdb data_out (λ (done : Step). done.state.disk ≡ state.disk)
    (refused-leaves state i)
    (λ operation k.
    let reads = asked-reads (config_of state) k.command data_out operation k.operation_is in
    effect-leaves state i (effect_of state i operation)
    (operation-leaves state i operation
    (reads.reads (sym (ap may_change_blocks k.command_is) ∙ other))))
