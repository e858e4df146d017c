-- The answers to an initiator that may neither read nor write do not depend on the blocks.
use Rattle.std.proofs.Common.{◌≡◌, ℕ, Bool, true, false, List, Some, Result, Ok, Err, refl, ap, sym}
use Rattle.std.specs.FinMap.{len}
use Rattle.sg_wire.specs.FirstBytes.{first_bytes}
use Rattle.sg_wire.specs.Laws.{CommandsHaveTheirClass}
use Rattle.sg_wire.specs.declared.command.CdbFault.{CdbFault}
use Rattle.sg_wire.specs.declared.command.Class.TheVariants.{Reads, Writes}
use Rattle.sg_wire.specs.declared.command.Command.{Command}
use Rattle.sg_store.specs.Disk.{Contents}
use Rattle.sg_pages.specs.Reports.{log_page_data, report_data}
use Rattle.sg_pages.specs.declared.reports.LogPage.TheVariants.{LogicalBlockProvisioning}
use Rattle.sg_pages.specs.declared.provisioning_pages.MappingResources.{MappingResources}
use Rattle.sg_pages.specs.declared.reports.Report.{Report}
use Rattle.sg_pages.specs.declared.reports.Report.TheVariants.{Log}
use Rattle.sg_units.specs.Access.{allows}
use Rattle.sg_target.specs.Checks.{checked_parse}
use Rattle.sg_target.specs.Effect.{Effect, returning_up_to, with_contents}
use Rattle.sg_target.specs.ModeCommands.{mode_parameters}
use Rattle.sg_target.specs.Refusal.{when_sound}
use Rattle.sg_target.specs.ReservationCommands.{changing_reservations, reservation_change}
use Rattle.sg_target.specs.State.{State, profile_of}
use Rattle.sg_target.specs.Step.{Step, good, outcome, step}
use Rattle.sg_target.specs.Charge.{step_by}
use Rattle.sg_target.specs.declared.operation.Operation.{Operation}
use Rattle.sg_target.specs.declared.operation.Operation.TheVariants.{Compare, CompareAndWrite, Copy, OrWrite}
use Rattle.sg_target.specs.declared.operation.Operation.TheVariants.{CompareEach, Verify}
use Rattle.sg_target.specs.declared.operation.Operation.TheVariants.{ReturnModes, ChangeModes}
use Rattle.sg_target.specs.declared.operation.Operation.TheVariants.{ReturnLuns, ReturnReport}
use Rattle.sg_target.specs.declared.operation.Operation.TheVariants.{Read, Write, Fill, Unmap}
use Rattle.sg_target.specs.declared.operation.Operation.TheVariants.{UnmapAll, UnmapExtent, ReturnLbaStatus}
use Rattle.sg_target.specs.declared.operation.Operation.TheVariants.{Anchor, AnchorExtent}
use Rattle.sg_target.specs.declared.operation.Operation.TheVariants.{ChangeReservations}
use Rattle.sg_target.specs.declared.refusal.Refusal.{Refusal}
use Rattle.sg_target.proofs.LiftLemmas.{Asked, lifted-both}
use Rattle.sg_fencing.specs.Fencing.{CountsAsMany}
use Rattle.sg_fencing.proofs.OperationLemmas.{class_for, shows_number}
use Rattle.sg_fencing.proofs.AccessLemmas.{asked-is-allowed, asked-number}

-- ---- Effects in a state, and in one with other blocks

module _ (s : State) (x : Contents) (j : ℕ) where
  abbrev t : State
  t = with_contents s x

  pub sound-alike : {A : Type 0} (sound : Result A Refusal) (first second : A → Effect)
      → ((value : A) → (outcome s j (Ok (first value))).answer ≡ (outcome t j (Ok (second value))).answer)
      → (outcome s j (when_sound sound first)).answer ≡ (outcome t j (when_sound sound second)).answer
  sound-alike (Ok value) first second answer = answer value
  sound-alike (Err refusal) first second answer = refl

  abbrev pool-with : (used : ℕ) → MappingResources
  pool-with used =
      record { capacity = s.disk.capacity; blocks = s.disk.pool; used = used }

  -- a report, of which only one log page has something of the blocks
  pub report-alike : (report : Report) (n : ℕ)
      → (shows_number (ReturnReport report n) ≡ true → len x ≡ len s.disk.contents)
      → (step_by s j (ReturnReport report n)).answer ≡ (step_by t j (ReturnReport report n)).answer
  unfolding report_data log_page_data
  report-alike (Log LogicalBlockProvisioning pointer) n same =
      let page = Log LogicalBlockProvisioning pointer in
      ap (λ (used : ℕ). good (first_bytes n (report_data (profile_of s) (pool-with used) page)))
      (sym (same refl))
  report-alike _ n same = refl

  pub luns-alike : (listed : Bool) (n : ℕ)
      → (step_by s j (ReturnLuns listed n)).answer ≡ (step_by t j (ReturnLuns listed n)).answer
  unfolding report_data
  luns-alike listed n = refl

  -- an operation that neither reads nor writes
  pub operation-alike : (operation : Operation) → (class_for operation ≡ Some Reads → ⊥)
      → (class_for operation ≡ Some Writes → ⊥)
      → (shows_number operation ≡ true → len x ≡ len s.disk.contents)
      → (step_by s j operation).answer ≡ (step_by t j operation).answer
  unfolding reservation_change
  operation-alike (ReturnReport report n) r w same = report-alike report n same
  operation-alike (ReturnLuns listed n) r w same = luns-alike listed n
  operation-alike (Read extent) r w same = absurd (r refl)
  operation-alike (ReturnLbaStatus start n) r w same = absurd (r refl)
  operation-alike (Verify extent) r w same = absurd (r refl)
  operation-alike (Compare out) r w same = absurd (r refl)
  operation-alike (CompareEach extent block) r w same = absurd (r refl)
  operation-alike (CompareAndWrite exchange) r w same = absurd (w refl)
  operation-alike (OrWrite out) r w same = absurd (w refl)
  operation-alike (Copy segment) r w same = absurd (w refl)
  operation-alike (Write out) r w same = absurd (w refl)
  operation-alike (Fill extent block) r w same = absurd (w refl)
  operation-alike (Unmap extents) r w same = absurd (w refl)
  operation-alike (UnmapExtent extent) r w same = absurd (w refl)
  operation-alike (UnmapAll blocks) r w same = absurd (w refl)
  operation-alike (Anchor extents) r w same = absurd (w refl)
  operation-alike (AnchorExtent extent) r w same = absurd (w refl)
  operation-alike (ChangeModes width sp list) r w same = absurd (w refl)
  operation-alike (ReturnModes request n) r w same =
      sound-alike (mode_parameters s.modes request) (returning_up_to s n) (returning_up_to t n)
      (λ list. refl)
  operation-alike (ChangeReservations action scope_type list) r w same =
      sound-alike (reservation_change s j action scope_type list) (changing_reservations s j)
      (changing_reservations t j) (λ change. refl)
  operation-alike _ r w same = refl

  pub parse-same : (data_out : List ℕ) (parsed : Result Command CdbFault)
      → checked_parse s parsed data_out ≡ checked_parse t parsed data_out
  parse-same data_out (Err fault) = refl
  parse-same data_out (Ok command) = refl

  step-alike : (cdb data_out : List ℕ)
      → ((operation : Operation) → Asked s j cdb data_out operation
      → class_for operation ≡ Some Reads → ⊥)
      → ((operation : Operation) → Asked s j cdb data_out operation
      → class_for operation ≡ Some Writes → ⊥)
      → CountsAsMany s x cdb
      → (step s j cdb data_out).answer ≡ (step t j cdb data_out).answer
  step-alike cdb data_out r w none =
      lifted-both s t j cdb data_out refl refl (parse-same data_out)
      (λ (first second : Step). first.answer ≡ second.answer) (λ refusal. refl)
      (λ operation k. operation-alike operation (r operation k) (w operation k)
      (asked-number s j x cdb data_out none operation k))

-- the answer to an initiator that may neither read nor write is the same whatever the blocks are
pub unseen : CommandsHaveTheirClass → (state : State) (contents : Contents) (j : ℕ)
    → allows state.reservations j Reads ≡ false → allows state.reservations j Writes ≡ false
    → (cdb data_out : List ℕ) → CountsAsMany state contents cdb
    → (step (with_contents state contents) j cdb data_out).answer
    ≡ (step state j cdb data_out).answer
unseen classes state contents j no_reads no_writes cdb data_out none =
    sym (step-alike state contents j cdb data_out
    (λ operation k. asked-is-allowed state j classes cdb data_out operation Reads k no_reads)
    (λ operation k. asked-is-allowed state j classes cdb data_out operation Writes k no_writes) none)
