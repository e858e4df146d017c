-- On a disk with armed faults, too, the answers to an initiator that may neither read nor write do not
-- depend on the blocks.
use Rattle.std.specs.FinMap.{len}
use Rattle.std.proofs.Common.{◌≡◌, ℕ, true, false, List, Option, Some, None, Result, Ok, Err}
use Rattle.std.proofs.Common.{drop, refl, sym, ap, ap₂, subst, ◌∙◌}
use Rattle.sg_wire.specs.CdbDecoding.{command_in}
use Rattle.sg_wire.specs.Laws.{CommandsHaveTheirClass}
use Rattle.sg_wire.specs.SenseData.{sense_data}
use Rattle.sg_wire.specs.declared.command.Class.TheVariants.{Reads, Writes}
use Rattle.sg_faults.specs.Faults.{Faults, asked, decided}
use Rattle.sg_faults.specs.Meeting.{Seen}
use Rattle.sg_faults.specs.Places.{afterwards}
use Rattle.sg_faults.specs.declared.fault.Fault.{Fault}
use Rattle.sg_faults.specs.declared.outcome.Afterwards.{Afterwards}
use Rattle.sg_faults.specs.declared.outcome.Afterwards.TheVariants as after
use Rattle.sg_faults.specs.declared.outcome.Struck.{Struck}
use Rattle.sg_pages.specs.ModePage.{ModeState, descriptor_sense}
use Rattle.sg_store.specs.Disk.{Contents}
use Rattle.sg_units.specs.Access.{allows}
use Rattle.sg_target.specs.Armed.{Armed, afterwards_step, answer_afterwards, armed_step, armed_step_by}
use Rattle.sg_target.specs.Armed.{attempt_by, faults_left, finished_if_good, first_blocks, marked_by}
use Rattle.sg_target.specs.Armed.{seen, step_of_checked, unsent_afterwards, with_first}
use Rattle.sg_target.specs.Charge.{step_by}
use Rattle.sg_target.specs.Checks.{cdb_checks, checked_cdb}
use Rattle.sg_target.specs.Effect.{with_contents}
use Rattle.sg_target.specs.PrimaryCommands.{format_of}
use Rattle.sg_target.specs.Refusal.{fault_sense, first_some, unless_refused}
use Rattle.sg_target.specs.State.{State, profile_of}
use Rattle.sg_target.specs.Step.{Answer, Step, check_condition}
use Rattle.sg_target.specs.declared.operation.Operation.{Operation}
use Rattle.sg_target.specs.declared.refusal.Refusal.{Refusal}
use Rattle.sg_target.specs.declared.reply.Status.{Status}
use Rattle.sg_target.specs.declared.reply.Status.TheVariants.{Good, NoReply}
use Rattle.sg_target.proofs.ArmedLemmas.{Holds, holds}
use Rattle.sg_target.proofs.LiftLemmas.{asked as asked-for}
use Rattle.sg_fencing.specs.WithFaults.{ReturnTheSame, with_other_blocks}
use Rattle.sg_fencing.specs.Fencing.{CountsAsMany}
use Rattle.sg_fencing.proofs.AccessLemmas.{asked-is-allowed, asked-number}
use Rattle.sg_fencing.proofs.OperationLemmas.{class_for, first-class, first-number, shows_number}
use Rattle.sg_fencing.proofs.UnseenLemmas.{operation-alike, parse-same}
use Rattle.sg_fencing.proofs.UnseenRunLemmas.{operation-differs, refused-differ}

-- ---- Faults afterwards

-- two steps with one answer, after which the mode pages are the same
module _ (first second : Step) (answer : first.answer ≡ second.answer)
    (modes : first.state.modes ≡ second.state.modes) where
  by-outcome : (outcome : Afterwards)
      → answer_afterwards outcome first ≡ answer_afterwards outcome second
  by-outcome after.NoReply = ap (λ (a : Answer). record a { status = NoReply }) answer
  by-outcome (after.CheckCondition code) =
      ap₂
      (λ (m : ModeState) (data_in : List ℕ).
      check_condition (sense_data (format_of (descriptor_sense m)) (fault_sense code)) data_in)
      modes
      (ap (λ (a : Answer). a.data_in) answer)
  by-outcome (after.ShortDataIn bytes) = ap (with_first bytes) answer

  unsent-by : (outcome : Afterwards)
      → unsent_afterwards outcome first ≡ unsent_afterwards outcome second
  unsent-by after.NoReply = refl
  unsent-by (after.CheckCondition code) = refl
  unsent-by (after.ShortDataIn bytes) = ap (λ (a : Answer). drop bytes a.data_in) answer

  by-struck : (struck : Option (Struck Afterwards)) (faults : Faults)
      → ReturnTheSame (afterwards_step struck first faults) (afterwards_step struck second faults)
  by-struck None faults = record { answer = answer; unsent = refl }
  by-struck (Some struck) faults =
      record { answer = by-outcome struck.outcome; unsent = unsent-by struck.outcome }

  by-status : (status : Status) (mark : Option Fault) (command : Seen) (faults : Faults)
      → ReturnTheSame (finished_if_good status mark command faults first)
      (finished_if_good status mark command faults second)
  by-status Good mark command faults =
      let left = faults_left mark command faults in
      by-struck (decided afterwards command left) (asked afterwards command left)
  by-status _ mark command faults = record { answer = answer; unsent = refl }

  finished-alike : (mark : Option Fault) (command : Seen) (faults : Faults)
      → ReturnTheSame (finished_if_good first.answer.status mark command faults first)
      (finished_if_good second.answer.status mark command faults second)
  finished-alike mark command faults =
      subst
      (λ (a : Answer). ReturnTheSame
      (finished_if_good first.answer.status mark command faults first)
      (finished_if_good a.status mark command faults second))
      answer (by-status first.answer.status mark command faults)

-- ---- A command

module _ (disk : Armed) (x : Contents) (j : ℕ) (cdb : List ℕ) where
  abbrev s : State
  s = disk.state

  abbrev t : State
  t = with_contents s x

  -- an operation that neither reads nor writes, and shows no number by which the contents differ
  record IsBlind (operation : Operation) : Type 0 where
    reads : class_for operation ≡ Some Reads → ⊥
    writes : class_for operation ≡ Some Writes → ⊥
    number : shows_number operation ≡ true → len x ≡ len s.disk.contents

  first-blind : (n : ℕ) (operation : Operation) → IsBlind operation
      → IsBlind (first_blocks n operation)
  first-blind n operation h = record {
    reads = λ e. h.reads (sym (first-class n operation) ∙ e);
    writes = λ e. h.writes (sym (first-class n operation) ∙ e);
    number = λ e. h.number (sym (first-number n operation) ∙ e);
  }

  result-alike : (result : Result Operation Refusal) → Holds IsBlind first-blind result
      → (mark : Option Fault) (command : Seen) (faults : Faults)
      → ReturnTheSame
      (let done = step_of_checked s j result in
      finished_if_good done.answer.status mark command faults done)
      (let done = step_of_checked t j result in
      finished_if_good done.answer.status mark command faults done)
  result-alike (Ok operation) h =
      finished-alike (step_by s j operation) (step_by t j operation)
      (operation-alike s x j operation h.reads h.writes h.number)
      (ap (λ (a : State). a.modes) (operation-differs s x j operation))
  result-alike (Err refusal) h =
      finished-alike (step_of_checked s j (Err refusal)) (step_of_checked t j (Err refusal)) refl
      (ap (λ (a : State). a.modes) (refused-differ s x j refusal))

  checked-alike : (checked : Result Operation Refusal) → Holds IsBlind first-blind checked
      → ReturnTheSame (armed_step_by disk j cdb checked)
      (armed_step_by (with_other_blocks disk x) j cdb checked)
  checked-alike checked h =
      let tried = attempt_by disk j cdb checked in
      result-alike tried.result
      (holds IsBlind first-blind disk.faults (seen j cdb checked) checked h)
      (marked_by tried.result) (seen j cdb tried.result) tried.faults

  checked-same : (data_out : List ℕ)
      → checked_cdb s j cdb data_out ≡ checked_cdb t j cdb data_out
  unfolding checked_cdb
  checked-same data_out =
      ap (unless_refused (first_some (cdb_checks s j cdb)))
      (parse-same s x j data_out (command_in (profile_of s) cdb))

  blind : CommandsHaveTheirClass → allows s.reservations j Reads ≡ false
      → allows s.reservations j Writes ≡ false → CountsAsMany s x cdb → (data_out : List ℕ)
      → (checked : Result Operation Refusal) → checked_cdb s j cdb data_out ≡ checked
      → Holds IsBlind first-blind checked
  blind classes no_reads no_writes none data_out (Ok operation) e =
      let k = asked-for s j cdb data_out operation e in
      record {
        reads = asked-is-allowed s j classes cdb data_out operation Reads k no_reads;
        writes = asked-is-allowed s j classes cdb data_out operation Writes k no_writes;
        number = asked-number s j x cdb data_out none operation k;
      }
  blind classes no_reads no_writes none data_out (Err refusal) e = tt

-- what an initiator gets that may neither read nor write is the same whatever the blocks are
pub unseen-with-faults : CommandsHaveTheirClass → (disk : Armed) (contents : Contents) (j : ℕ)
    → allows disk.state.reservations j Reads ≡ false
    → allows disk.state.reservations j Writes ≡ false → (cdb data_out : List ℕ)
    → CountsAsMany disk.state contents cdb
    → ReturnTheSame (armed_step (with_other_blocks disk contents) j cdb data_out)
    (armed_step disk j cdb data_out)
unseen-with-faults classes disk contents j no_reads no_writes cdb data_out none =
    let checked = checked_cdb disk.state j cdb data_out in
    let other = with_other_blocks disk contents in
    let same =
    subst
    (λ (c : Result Operation Refusal). ReturnTheSame (armed_step_by disk j cdb checked)
    (armed_step_by other j cdb c))
    (checked-same disk contents j cdb data_out)
    (checked-alike disk contents j cdb checked
    (blind disk contents j cdb classes no_reads no_writes none data_out checked refl)) in
    record { answer = sym same.answer; unsent = sym same.unsent }
