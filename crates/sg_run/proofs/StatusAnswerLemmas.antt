-- The data-in of GET LBA STATUS, if it ends with GOOD.
use Rattle.std.proofs.Common.{◌≡◌, ℕ, List, Option, Some, None, Result, Ok, Err, refl, sym, subst, ◌∙◌}
use Rattle.sg_wire.specs.CdbDecoding.{command_in, command_of}
use Rattle.sg_wire.specs.declared.command.CdbFault.{CdbFault}
use Rattle.sg_wire.specs.declared.command.Command.{Command}
use Rattle.sg_wire.specs.declared.command.Command.TheVariants as command
use Rattle.sg_wire.specs.declared.command.provisioning.GetLbaStatus.{GetLbaStatus}
use Rattle.sg_wire.proofs.ProfileLemmas.{read-any}
use Rattle.sg_target.specs.Checks.{cdb_checks, checked_cdb, checked_command, checked_parse}
use Rattle.sg_target.specs.Checks.{medium_checks}
use Rattle.sg_target.specs.Refusal.{checked_next, first_some, refusal_for, unless_refused}
use Rattle.sg_target.specs.Semantics.{effect_of, medium_use}
use Rattle.sg_target.specs.State.{State, profile_of}
use Rattle.sg_target.specs.Step.{Step, outcome, refused}
use Rattle.sg_target.specs.declared.operation.Operation.{Operation}
use Rattle.sg_target.specs.declared.operation.Operation.TheVariants as operation
use Rattle.sg_target.specs.declared.refusal.Refusal.{Refusal}
use Rattle.sg_target.specs.declared.refusal.Refusal.TheVariants.{Conflict, CheckCondition}
use Rattle.sg_target.specs.declared.refusal.Refusal.TheVariants.{Busy, TaskSetFull, NoReply}
use Rattle.sg_target.specs.declared.refusal.Refusal.TheVariants.{DeferredError}
use Rattle.sg_target.specs.declared.reply.Status.TheVariants.{Good}
use Rattle.sg_run.specs.Walk.{AnswersAreOfAWalk, IsAnswerOfAWalk}

module _ (state : State) (i : ℕ) (c : GetLbaStatus) where
  abbrev Answers : Step → Type 0
  Answers done = done.answer.status ≡ Good → IsAnswerOfAWalk state c done

  abbrev asked : Operation
  asked = operation.ReturnLbaStatus c.start c.allocation_length

  -- a refused command does not end with GOOD
  not-refused : (refusal : Refusal) → Answers (refused state i refusal)
  not-refused Conflict e = cc
  not-refused (CheckCondition reason) e = cc
  not-refused Busy e = cc
  not-refused TaskSetFull e = cc
  not-refused NoReply e = cc
  not-refused (DeferredError code) e = cc

  by-medium : (refusal : Option Refusal)
      → Answers (outcome state i (checked_next (unless_refused refusal (Ok asked)) (effect_of state i)))
  by-medium None e = record { data_in = refl; disk = refl }
  by-medium (Some refusal) e = not-refused refusal e

  by-cdb : (data_out : List ℕ) (refusal : Option Refusal) (parsed : Result Command CdbFault)
      → ((k : Command) → parsed ≡ Ok k → k ≡ command.GetLbaStatus c)
      → Answers (outcome state i
      (checked_next (unless_refused refusal (checked_parse state parsed data_out)) (effect_of state i)))
  by-cdb data_out None (Ok k) is =
      subst
      (λ (k : Command). Answers (outcome state i
      (checked_next (checked_command state k data_out) (effect_of state i))))
      (sym (is k refl)) (by-medium (first_some (medium_checks state (medium_use asked))))
  by-cdb data_out None (Err fault) is = not-refused (refusal_for fault)
  by-cdb data_out (Some refusal) parsed is = not-refused refusal

-- the command that a disk reads is the command of the CDB
is-read : (state : State) (cdb : List ℕ) (c k : Command) → command_of cdb ≡ Ok c
    → command_in (profile_of state) cdb ≡ Ok k → k ≡ c
is-read state cdb c k is e =
    let both : Ok k ≡ Ok c = sym (read-any (profile_of state) cdb k e) ∙ is in cc

pub answers-of-walk : AnswersAreOfAWalk
unfolding checked_cdb
answers-of-walk state i cdb data_out c is good =
    let untold =
    by-cdb state i c data_out (first_some (cdb_checks state i cdb)) (command_in (profile_of state) cdb)
    (λ k e. is-read state cdb (command.GetLbaStatus c) k is e) good in
    record { data_in = untold.data_in; disk = untold.disk }
