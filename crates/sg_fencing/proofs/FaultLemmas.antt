-- Commands on a disk with armed faults: what is denied, and what they leave.
use Rattle.std.proofs.Common.{◌≡◌, ◌⊎◌, inl, inr, ℕ, Bool, true, false, List, [], Some, Result, Ok}
use Rattle.std.proofs.Common.{Err, refl, sym, ap, ◌∙◌, subst}
use Rattle.std.proofs.lemmas.Bool.{false≢true}
use Rattle.sg_wire.specs.CdbDecoding.{class_of}
use Rattle.sg_wire.specs.Laws.{CommandsHaveTheirClass}
use Rattle.sg_wire.specs.declared.command.Class.{Class}
use Rattle.sg_wire.specs.declared.command.Class.TheVariants.{Reads, Writes}
use Rattle.sg_units.specs.Access.{allows}
use Rattle.sg_units.specs.Registrations.{is_registered}
use Rattle.sg_units.specs.declared.reservation_state.ReservationState.{ReservationState}
use Rattle.sg_target.specs.Armed.{Armed, armed_step, first_blocks, step_of_checked}
use Rattle.sg_target.specs.Checks.{checked_cdb}
use Rattle.sg_target.specs.FaultLaws.{FaultsOnlyDropOrShorten, RefusedCommandsStayRefused}
use Rattle.sg_target.specs.FaultLaws.{WritesFirstBlocks, writes_data}
use Rattle.sg_target.specs.Semantics.{effect_of}
use Rattle.sg_target.specs.State.{State}
use Rattle.sg_target.specs.Step.{Answer, refused, step}
use Rattle.sg_target.specs.declared.operation.Operation.{Operation}
use Rattle.sg_target.specs.declared.operation.Operation.TheVariants.{Write, Fill}
use Rattle.sg_target.specs.declared.refusal.Refusal.{Refusal}
use Rattle.sg_target.specs.declared.refusal.Refusal.TheVariants.{Conflict, CheckCondition}
use Rattle.sg_target.specs.declared.refusal.Refusal.TheVariants.{Busy, TaskSetFull, NoReply}
use Rattle.sg_target.specs.declared.refusal.Refusal.TheVariants.{DeferredError}
use Rattle.sg_target.proofs.LiftLemmas.{asked, not_good}
use Rattle.sg_fencing.specs.Registrants.{Registers, is_registrant}
use Rattle.sg_fencing.specs.WithFaults.{IsDenied, IsKeptAway}
use Rattle.sg_fencing.proofs.AccessLemmas.{asked-is-allowed, checks-refuse}
use Rattle.sg_fencing.proofs.FaultUnseenLemmas.{unseen-with-faults}
use Rattle.sg_fencing.proofs.FaultsLeftLemmas.{faults-left}
use Rattle.sg_fencing.proofs.OperationLemmas.{class_for}
use Rattle.sg_fencing.proofs.RegisteringLemmas.{registers-it}
use Rattle.sg_fencing.proofs.StandingLemmas.{outcome-stands}

-- ---- What is denied

no-data : (state : State) (j : ℕ) (refusal : Refusal) → (refused state j refusal).answer.data_in ≡ []
no-data state j Conflict = refl
no-data state j (CheckCondition reason) = refl
no-data state j Busy = refl
no-data state j TaskSetFull = refl
no-data state j NoReply = refl
no-data state j (DeferredError code) = refl

module _ (stays : RefusedCommandsStayRefused) (disk : Armed) (j : ℕ) (cdb data_out : List ℕ) where
  denied-by : (checked : Result Operation Refusal) → checked_cdb disk.state j cdb data_out ≡ checked
      → ((operation : Operation) → checked ≡ Ok operation → ⊥)
      → IsDenied (armed_step disk j cdb data_out)
  denied-by (Ok operation) e none = absurd (none operation refl)
  denied-by (Err refusal) e none =
      let its = stays disk j cdb data_out refusal e in
      let good = not_good disk.state j its.refusal in
      record {
        status = λ e. good (sym (ap (λ (a : Answer). a.status) its.answer) ∙ e);
        data_in = ap (λ (a : Answer). a.data_in) its.answer ∙ no-data disk.state j its.refusal;
        unsent = its.all_sent;
      }

  -- a command of a class that the reservation does not allow
  denied : (class : Class) → class_of cdb ≡ Some class → allows disk.state.reservations j class ≡ false
      → IsDenied (armed_step disk j cdb data_out)
  denied class is not_allowed =
      denied-by (checked_cdb disk.state j cdb data_out) refl
      (checks-refuse disk.state j cdb data_out class is not_allowed)

  -- an initiator that the reservation does not allow to write, and if reading is excluded not to read
  pub kept-away : CommandsHaveTheirClass → (excluded : Bool)
      → allows disk.state.reservations j Writes ≡ false
      → (excluded ≡ true → allows disk.state.reservations j Reads ≡ false)
      → IsKeptAway disk j cdb data_out excluded
  kept-away classes excluded writes reads = record {
    writes = λ is. denied Writes is writes;
    reads = λ is excludes. denied Reads is (reads excludes);
    unseen =
        λ contents excludes none.
        unseen-with-faults classes disk contents j (reads excludes) writes cdb data_out none;
    faults = λ other apart. faults-left classes disk j writes cdb data_out other apart;
  }

-- ---- What is left

-- what holds before a command, after it on a disk without faults, and after its first blocks
module _ (drops : FaultsOnlyDropOrShorten) (disk : Armed) (j : ℕ) (cdb data_out : List ℕ)
    (P : State → Type 0) (before : P disk.state) (sound : P (step disk.state j cdb data_out).state) where
  abbrev after : State
  after = (armed_step disk j cdb data_out).after.state

  left-by : (WritesFirstBlocks disk.state j cdb data_out after → P after) → P after
  left-by short = by-drop (drops disk j cdb data_out)
    where
      by-drop : (after ≡ disk.state) ⊎ ((after ≡ (step disk.state j cdb data_out).state)
          ⊎ WritesFirstBlocks disk.state j cdb data_out after) → P after
      by-drop (inl same) = subst P (sym same) before
      by-drop (inr (inl same)) = subst P (sym same) sound
      by-drop (inr (inr part)) = short part

  writes-class : (operation : Operation) → writes_data operation ≡ true
      → class_for operation ≡ Some Writes
  writes-class (Write out) h = refl
  writes-class (Fill extent block) h = refl
  writes-class _ h = absurd (false≢true h)

  -- only the first two can be there if the initiator may not write
  pub left-without-writing : CommandsHaveTheirClass → allows disk.state.reservations j Writes ≡ false
      → P after
  left-without-writing classes not_allowed = left-by (λ part.
      absurd (asked-is-allowed disk.state j classes cdb data_out part.operation Writes
      (asked disk.state j cdb data_out part.operation part.passed) not_allowed
      (writes-class part.operation part.writes)))

-- ---- Registrations

-- a fact about the reservations stays after a WRITE or a WRITE SAME
module _ (Stands : ReservationState → Type 0) (state : State) (j : ℕ)
    (same : Stands state.reservations) where
  pub writing-stands : (n : ℕ) (operation : Operation) → writes_data operation ≡ true
      → Stands (step_of_checked state j (Ok (first_blocks n operation))).state.reservations
  writing-stands n (Write out) h =
      outcome-stands Stands state j same (effect_of state j (first_blocks n (Write out))) same
  writing-stands n (Fill extent block) h =
      outcome-stands Stands state j same (effect_of state j (first_blocks n (Fill extent block))) same
  writing-stands n _ h = absurd (false≢true h)

pub registers-it-with-faults : FaultsOnlyDropOrShorten → (disk : Armed) (i j : ℕ)
    → is_registrant disk.state i ≡ false → (cdb data_out : List ℕ)
    → is_registrant (armed_step disk j cdb data_out).after.state i ≡ true
    → Registers disk.state i j cdb data_out
registers-it-with-faults drops disk i j unknown cdb data_out =
    left-by drops disk j cdb data_out
    (λ after. is_registrant after i ≡ true → Registers disk.state i j cdb data_out)
    (λ known. absurd (false≢true (sym unknown ∙ known)))
    (λ known. registers-it disk.state i j unknown cdb data_out known)
    (λ part known.
    let still = writing-stands (λ r. is_registered r.registrations i ≡ false) disk.state j unknown
    part.blocks part.operation part.writes in
    absurd (false≢true
    (sym still ∙ (ap (λ (s : State). is_registrant s i) (sym part.state_is) ∙ known))))
