-- What a command leaves of the armed faults for other initiators.
use Rattle.std.proofs.Common.{◌≡◌, ℕ, zero, suc, Bool, true, false, not, ◌&&◌, List, [], ◌∷◌, get_or}
use Rattle.std.proofs.Common.{Option, Some, None, Result, Ok, Err, refl, sym, ap, ◌∙◌}
use Rattle.std.specs.Prelude.{if◌then◌else◌, is_some, map, option_and_then}
use Rattle.std.specs.List.{list_any}
use Rattle.std.specs.Option.{option_map_or}
use Rattle.std.proofs.lemmas.Bool.{and_right, or_parts}
use Rattle.std.proofs.lemmas.List.{get_or-set_other}
use Rattle.sg_wire.specs.Laws.{CommandsHaveTheirClass}
use Rattle.sg_wire.specs.declared.command.Class.TheVariants.{Writes}
use Rattle.sg_wire.specs.declared.extent.Extent.{Extent}
use Rattle.sg_faults.specs.Arming.{count_for, counted, is_spent, lasts, next_count, spent}
use Rattle.sg_faults.specs.Faults.{Faults, after_asking, asked, decided, healed, met}
use Rattle.sg_faults.specs.Faults.{struck_in}
use Rattle.sg_faults.specs.Meeting.{Seen, heals, meets, one_contains, reaches_medium}
use Rattle.sg_faults.specs.Places.{At, afterwards, at_medium, on_arrival}
use Rattle.sg_faults.specs.declared.fault.ArmedFault.{ArmedFault}
use Rattle.sg_faults.specs.declared.fault.BadBlocks.{BadBlocks}
use Rattle.sg_faults.specs.declared.fault.Count.{Count}
use Rattle.sg_faults.specs.declared.fault.Fault.{Fault}
use Rattle.sg_faults.specs.declared.outcome.Afterwards.{Afterwards}
use Rattle.sg_faults.specs.declared.outcome.AtMedium.{AtMedium}
use Rattle.sg_faults.specs.declared.outcome.OnArrival.{OnArrival}
use Rattle.sg_faults.specs.declared.outcome.Struck.{Struck}
use Rattle.sg_units.specs.Access.{allows}
use Rattle.sg_target.specs.Armed.{Armed, Attempt, afterwards_step, armed_step, arrival_attempt}
use Rattle.sg_target.specs.Armed.{attempt, attempt_of, checked_attempt, fault_by, finished_if_good}
use Rattle.sg_target.specs.Armed.{first_blocks, lacks_room, marked_by, medium_attempt, medium_of, seen}
use Rattle.sg_target.specs.Armed.{step_of_checked}
use Rattle.sg_target.specs.Checks.{checked_cdb}
use Rattle.sg_target.specs.Semantics.{medium_use}
use Rattle.sg_target.specs.Step.{Step}
use Rattle.sg_target.specs.declared.operation.Operation.{Operation}
use Rattle.sg_target.specs.declared.operation.Operation.TheVariants as operation
use Rattle.sg_target.specs.declared.refusal.Refusal.{Refusal}
use Rattle.sg_target.specs.declared.reply.Status.{Status}
use Rattle.sg_target.specs.declared.reply.Status.TheVariants.{Good}
use Rattle.sg_target.proofs.ArmedLemmas.{Holds, holds, of-both}
use Rattle.sg_target.proofs.LiftLemmas.{asked as asked-for}
use Rattle.sg_fencing.specs.WithFaults.{faults_for, left_for}
use Rattle.sg_fencing.proofs.AccessLemmas.{asked-is-allowed}
use Rattle.sg_fencing.proofs.OperationLemmas.{class_for, first-class}

-- ---- Faults that are asked

spent-if : (b : Bool) → not b ≡ false → b ≡ true
spent-if true e = refl
spent-if false e = cc

all-spent : (counts : List Count) (k : ℕ) → list_any (λ count. not (is_spent count)) counts ≡ false
    → is_spent (get_or counts k spent) ≡ true
all-spent [] k e = refl
all-spent (count ∷ counts) zero e = spent-if (is_spent count) (or_parts _ _ e).0
all-spent (count ∷ counts) (suc k) e = all-spent counts k (or_parts (not (is_spent count)) _ e).1

abbrev left_in : (k : ℕ) → Option ArmedFault → Option (Fault × Count)
left_in k slot = option_and_then (left_for k) slot

abbrev left_of : (k : ℕ) → Faults → List (Option (Fault × Count))
left_of k faults = map (left_in k) faults

abbrev left_by : Fault → Count → (is_spent : Bool) → Option (Fault × Count)
left_by fault count is_spent = if is_spent then None else Some (fault, count)

module _ {A : Type 0} (at : At A) (command : Seen) (k : ℕ) (other : k ≡ command.initiator → ⊥) where
  met-left : (a : ArmedFault) → left_for k (met at command a) ≡ left_for k a
  met-left a = by-test (is_some (at a.fault.outcome) && meets command a.fault)
    where
      by-test : (hit : Bool) → left_for k (if hit then counted a command.initiator else a) ≡ left_for k a
      by-test true =
          ap (λ (count : Count). left_by a.fault count (is_spent count))
          (get_or-set_other a.counts command.initiator k (next_count (count_for a command.initiator)) spent
          other)
      by-test false = refl

  slot-left : (slot : Option ArmedFault) → left_in k (after_asking at command slot) ≡ left_in k slot
  slot-left None = refl
  slot-left (Some a) = by-lasts (lasts (met at command a)) refl
    where
      by-lasts : (b : Bool) → lasts (met at command a) ≡ b
          → left_in k (if b then Some (met at command a) else None) ≡ left_for k a
      by-lasts true e = met-left a
      by-lasts false e =
          let left = met at command a in
          sym (ap (left_by left.fault (count_for left k)) (all-spent left.counts k e)) ∙ met-left a

  one-more : (b : Bool) (slot : Option ArmedFault) (faults asked : Faults)
      → left_of k asked ≡ left_of k faults
      → left_of k (after_asking at command slot ∷ (if b then faults else asked))
      ≡ left_of k (slot ∷ faults)
  one-more true slot faults asked e = λ d. slot-left slot d ∷ left_of k faults
  one-more false slot faults asked e = λ d. slot-left slot d ∷ e d

  asked-left : (faults : Faults) → left_of k (asked at command faults) ≡ left_of k faults
  asked-left [] = refl
  asked-left (slot ∷ faults) =
      one-more (is_some (struck_in at command slot)) slot faults (asked at command faults)
      (asked-left faults)

-- a command that overwrites nothing heals nothing
heals-none : (command : Seen) → command.overwritten ≡ [] → (blocks : Option BadBlocks)
    → option_map_or (heals command) blocks false ≡ false
heals-none command e None = refl
heals-none command e (Some bad) =
    and_right bad.healed_by_writes _ (ap (λ (extents : List Extent). one_contains extents bad.extent) e)

healed-none : (command : Seen) → command.overwritten ≡ [] → (faults : Faults)
    → healed command faults ≡ faults
unfolding healed
healed-none command e [] = refl
healed-none command e (None ∷ faults) = λ d. None ∷ healed-none command e faults d
healed-none command e (Some a ∷ faults) =
    let none = heals-none command e a.fault.blocks in
    λ d. (if none d then None else Some a) ∷ healed-none command e faults d

-- ---- A command

module _ (k : ℕ) (command : Seen) (other : k ≡ command.initiator → ⊥) where
  medium-faults : (struck : Option (Struck AtMedium)) (o : Operation) (faults : Faults)
      → (medium_attempt struck o faults).faults ≡ faults
  medium-faults None o faults = refl
  medium-faults (Some struck) o faults = refl

  checked-left : (checked : Result Operation Refusal) (faults : Faults)
      → left_of k (checked_attempt command checked faults).faults ≡ left_of k faults
  checked-left (Ok o) faults =
      of-both (λ (t : Attempt). left_of k t.faults ≡ left_of k faults) (reaches_medium command)
      (ap (left_of k) (medium-faults (decided at_medium command faults) o (asked at_medium command faults))
      ∙ asked-left at_medium command k other faults)
      refl
  checked-left (Err refusal) faults = refl

  arrival-left : (struck : Option (Struck OnArrival)) (checked : Result Operation Refusal)
      (faults : Faults)
      → left_of k (arrival_attempt struck command checked faults).faults ≡ left_of k faults
  arrival-left None checked faults = checked-left checked faults
  arrival-left (Some struck) checked faults = refl

  attempt-left : (checked : Result Operation Refusal) (faults : Faults)
      → left_of k (attempt faults command checked).faults ≡ left_of k faults
  attempt-left checked faults =
      let struck = decided on_arrival command faults in
      let left = asked on_arrival command faults in
      let same = arrival-left struck checked left ∙ asked-left on_arrival command k other faults in
      of-both (λ (t : Attempt). left_of k t.faults ≡ left_of k faults)
      (lacks_room command (arrival_attempt struck command checked left)) same same

  afterwards-faults : (struck : Option (Struck Afterwards)) (done : Step) (faults : Faults)
      → (afterwards_step struck done faults).after.faults ≡ faults
  afterwards-faults None done faults = refl
  afterwards-faults (Some struck) done faults = refl

  finished-left : command.overwritten ≡ [] → (status : Status) (faults : Faults) (done : Step)
      → left_of k (finished_if_good status None command faults done).after.faults ≡ left_of k faults
  finished-left e Good faults done =
      let left = healed command faults in
      ap (left_of k)
      (afterwards-faults (decided afterwards command left) done (asked afterwards command left))
      ∙ (asked-left afterwards command k other left ∙ ap (left_of k) (healed-none command e faults))
  finished-left e _ faults done = refl

-- ---- A command of an initiator that may not write

abbrev WritesNothing : Operation → Type 0
WritesNothing operation = class_for operation ≡ Some Writes → ⊥

first-writes-nothing : (n : ℕ) (operation : Operation) → WritesNothing operation
    → WritesNothing (first_blocks n operation)
first-writes-nothing n operation h = λ e. h (sym (first-class n operation) ∙ e)

overwrites-nothing : (o : Operation) → WritesNothing o → (medium_use o).overwritten ≡ []
overwrites-nothing (operation.Copy segment) h = absurd (h refl)
overwrites-nothing (operation.Write out) h = absurd (h refl)
overwrites-nothing (operation.Fill extent block) h = absurd (h refl)
overwrites-nothing (operation.MarkBad lba cor_dis) h = absurd (h refl)
overwrites-nothing (operation.Unmap extents) h = absurd (h refl)
overwrites-nothing (operation.UnmapExtent extent) h = absurd (h refl)
overwrites-nothing (operation.UnmapAll blocks) h = absurd (h refl)
overwrites-nothing (operation.Anchor extents) h = absurd (h refl)
overwrites-nothing (operation.AnchorExtent extent) h = absurd (h refl)
overwrites-nothing _ h = refl

none-overwritten : (result : Result Operation Refusal) → Holds WritesNothing first-writes-nothing result
    → (medium_of result).overwritten ≡ []
none-overwritten (Ok o) h = overwrites-nothing o h
none-overwritten (Err refusal) h = refl

-- and marks no block as bad
no-mark : (o : Operation) → WritesNothing o → fault_by o ≡ None
no-mark (operation.MarkBad lba cor_dis) h = absurd (h refl)
no-mark _ h = refl

unmarked : (result : Result Operation Refusal) → Holds WritesNothing first-writes-nothing result
    → marked_by result ≡ None
unmarked (Ok o) h = no-mark o h
unmarked (Err refusal) h = refl

module _ (classes : CommandsHaveTheirClass) (disk : Armed) (j : ℕ)
    (not_allowed : allows disk.state.reservations j Writes ≡ false) (cdb data_out : List ℕ) where
  nothing-asked : (checked : Result Operation Refusal)
      → checked_cdb disk.state j cdb data_out ≡ checked
      → Holds WritesNothing first-writes-nothing checked
  nothing-asked (Ok o) e =
      asked-is-allowed disk.state j classes cdb data_out o Writes
      (asked-for disk.state j cdb data_out o e) not_allowed
  nothing-asked (Err refusal) e = tt

  pub faults-left : (k : ℕ) → (k ≡ j → ⊥)
      → faults_for (armed_step disk j cdb data_out).after k ≡ faults_for disk k
  faults-left k other =
      let checked = checked_cdb disk.state j cdb data_out in
      let command = seen j cdb checked in
      let tried = attempt_of disk j cdb data_out in
      let done = step_of_checked disk.state j tried.result in
      let nothing = holds WritesNothing first-writes-nothing disk.faults command checked
      (nothing-asked checked refl) in
      let command' = seen j cdb tried.result in
      ap
      (λ (mark : Option Fault). faults_for
      (finished_if_good done.answer.status mark command' tried.faults done).after k)
      (unmarked tried.result nothing)
      ∙ finished-left k command' other (none-overwritten tried.result nothing) done.answer.status tried.faults
      done
      ∙ attempt-left k command other checked disk.faults
