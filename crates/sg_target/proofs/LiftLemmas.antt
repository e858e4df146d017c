-- From the operation that a command asks for to its step.
use Rattle.std.proofs.Common.{◌≡◌, ℕ, List, [], ◌∷◌, Option, Some, None, Result, Ok, Err}
use Rattle.std.proofs.Common.{refl, sym, ap, subst, ◌∙◌}
use Rattle.std.specs.Option.{option_map_or}
use Rattle.sg_wire.specs.CdbDecoding.{command_in, command_of}
use Rattle.sg_wire.specs.declared.command.CdbFault.{CdbFault}
use Rattle.sg_wire.specs.declared.command.Command.{Command}
use Rattle.sg_wire.proofs.ProfileLemmas.{read-any}
use Rattle.sg_target.specs.Armed.{step_of_checked}
use Rattle.sg_target.specs.Checks.{cdb_checks, checked_cdb, checked_operation, checked_parse, requested}
use Rattle.sg_target.specs.Checks.{medium_checks, short_data_out, unsupported_value}
use Rattle.sg_target.specs.Demands.{Demands, demands}
use Rattle.sg_target.specs.Refusal.{checked_next, first_some, unless_refused}
use Rattle.sg_target.specs.Semantics.{medium_use}
use Rattle.sg_target.specs.State.{State, config_of, profile_of}
use Rattle.sg_target.specs.Effect.{Effect}
use Rattle.sg_target.specs.Step.{Step, executed, outcome, refused, step}
use Rattle.sg_target.specs.Charge.{step_by}
use Rattle.sg_target.specs.declared.operation.Operation.{Operation}
use Rattle.sg_target.specs.declared.refusal.Refusal.{Refusal}
use Rattle.sg_target.specs.declared.refusal.Refusal.TheVariants.{Conflict, CheckCondition}
use Rattle.sg_target.specs.declared.refusal.Refusal.TheVariants.{Busy, TaskSetFull, NoReply}
use Rattle.sg_target.specs.declared.refusal.Refusal.TheVariants.{DeferredError}
use Rattle.sg_target.specs.declared.reply.Status.TheVariants.{Good}
use Rattle.sg_target.proofs.AlertLemmas.{refused-no-alert}

-- no refusal is GOOD
pub not_good : (state : State) (i : ℕ) (refusal : Refusal)
    → (refused state i refusal).answer.status ≡ Good → ⊥
not_good state i Conflict e = cc
not_good state i (CheckCondition reason) e = cc
not_good state i Busy e = cc
not_good state i TaskSetFull e = cc
not_good state i NoReply e = cc
not_good state i (DeferredError code) e = cc

-- what is true of each refusal, and of the step that is executed if nothing is found on the way, is
-- true of the outcome
module _ (state : State) (i : ℕ) where
  by-found : (P : Step → Type 0) (effect : Effect) (found : Option Refusal)
      → ((refusal : Refusal) → P (refused state i refusal)) → (found ≡ None → P (executed effect))
      → P (option_map_or (refused state i) found (executed effect))
  by-found P effect None r h = h refl
  by-found P effect (Some refusal) r h = r refusal

  pub outcome-by : (P : Step → Type 0) (effect : Effect)
      → ((refusal : Refusal) → P (refused state i refusal))
      → (effect.found ≡ None → P (executed effect)) → P (outcome state i (Ok effect))
  outcome-by P effect = by-found P effect effect.found

-- the checks of a command by its demands
abbrev pub request_checks : Demands → (data_out : List ℕ) → List (Option Refusal)
request_checks d data_out =
    unsupported_value d.unsupported ∷ short_data_out d.data_out data_out ∷ []

-- the command that asks for an operation, and the checks that it has passed
pub record Asked (state : State) (i : ℕ) (cdb data_out : List ℕ) (operation : Operation) : Type 0 where
  pub passed : first_some (cdb_checks state i cdb) ≡ None
  pub command : Command
  pub read_as : command_in (profile_of state) cdb ≡ Ok command
  pub command_is : command_of cdb ≡ Ok command
  pub accepted : first_some
      (request_checks (demands (config_of state) command data_out) data_out) ≡ None
  pub operation_is : (demands (config_of state) command data_out).operation ≡ Ok operation
  pub on_medium : first_some (medium_checks state (medium_use operation)) ≡ None

record Passed {A : Type 0} (refusal : Option Refusal) (result : Result A Refusal) (value : A) : Type 0 where
  none : refusal ≡ None
  is : result ≡ Ok value

unless-ok : {A : Type 0} (refusal : Option Refusal) (result : Result A Refusal) (value : A)
    → unless_refused refusal result ≡ Ok value → Passed refusal result value
unless-ok None result value e = record { none = refl; is = e }
unless-ok (Some refusal) result value e = cc

ok-same : (found : Result Operation Refusal) (asked operation : Operation) → found ≡ Ok asked
    → found ≡ Ok operation → asked ≡ operation
ok-same found asked operation e f = cc

-- the request of a command that passes the checks of its use of the medium
requested-ok : (state : State) (request : Result Operation Refusal) (operation : Operation)
    → checked_next request (checked_operation state) ≡ Ok operation
    → Passed (first_some (medium_checks state (medium_use operation))) request operation
requested-ok state (Err refusal) operation e = cc
requested-ok state (Ok asked) operation e =
    let passed = unless-ok (first_some (medium_checks state (medium_use asked))) (Ok asked) operation e in
    let same : asked ≡ operation = ok-same (Ok asked) asked operation refl passed.is in
    record {
      none =
          ap (λ (o : Operation). first_some (medium_checks state (medium_use o))) (sym same)
          ∙ passed.none;
      is = passed.is;
    }

record Parsed (state : State) (parsed : Result Command CdbFault) (data_out : List ℕ)
    (operation : Operation) : Type 0 where
  command : Command
  is : parsed ≡ Ok command
  accepted : first_some
      (request_checks (demands (config_of state) command data_out) data_out) ≡ None
  asks : (demands (config_of state) command data_out).operation ≡ Ok operation
  on_medium : first_some (medium_checks state (medium_use operation)) ≡ None

parsed-ok : (state : State) (parsed : Result Command CdbFault) (data_out : List ℕ)
    (operation : Operation) → checked_parse state parsed data_out ≡ Ok operation
    → Parsed state parsed data_out operation
parsed-ok state (Err fault) data_out operation e = cc
parsed-ok state (Ok command) data_out operation e =
    let d = demands (config_of state) command data_out in
    let medium = requested-ok state (requested d data_out) operation e in
    let passed = unless-ok (first_some (request_checks d data_out)) d.operation operation medium.is in
    record {
      command = command;
      is = refl;
      accepted = passed.none;
      asks = passed.is;
      on_medium = medium.none;
    }

module _ (state : State) (i : ℕ) (cdb data_out : List ℕ) where
  pub asked : (operation : Operation) → checked_cdb state i cdb data_out ≡ Ok operation
      → Asked state i cdb data_out operation
  unfolding checked_cdb
  asked operation e =
      let passed = unless-ok (first_some (cdb_checks state i cdb)) _ operation e in
      let parsed = parsed-ok state (command_in (profile_of state) cdb) data_out operation passed.is in
      record {
        passed = passed.none;
        command = parsed.command;
        read_as = parsed.is;
        command_is = read-any (profile_of state) cdb parsed.command parsed.is;
        accepted = parsed.accepted;
        operation_is = parsed.asks;
        on_medium = parsed.on_medium;
      }

  by-checked : (P : Step → Type 0) → ((refusal : Refusal) → P (refused state i refusal))
      → ((operation : Operation) → Asked state i cdb data_out operation → P (step_by state i operation))
      → (checked : Result Operation Refusal) → checked_cdb state i cdb data_out ≡ checked
      → P (step_of_checked state i checked)
  by-checked P r o (Err refusal) e = subst P (sym (refused-no-alert state i refusal)) (r refusal)
  by-checked P r o (Ok operation) e = o operation (asked operation e)

  -- what is true of each refusal, and of the operation that the command asks for, is of the step
  pub lifted : (P : Step → Type 0) → ((refusal : Refusal) → P (refused state i refusal))
      → ((operation : Operation) → Asked state i cdb data_out operation → P (step_by state i operation))
      → P (step state i cdb data_out)
  lifted P r o = by-checked P r o (checked_cdb state i cdb data_out) refl

-- so it is of a relation of two steps of states whose checks come to the same
module _ (s t : State) (i : ℕ) (cdb data_out : List ℕ) (profiles : profile_of s ≡ profile_of t)
    (same : first_some (cdb_checks s i cdb) ≡ first_some (cdb_checks t i cdb))
    (alike : (parsed : Result Command CdbFault)
    → checked_parse s parsed data_out ≡ checked_parse t parsed data_out) where
  checked-same : checked_cdb s i cdb data_out ≡ checked_cdb t i cdb data_out
  unfolding checked_cdb
  checked-same = λ d. unless_refused (same d)
      ((alike (command_in (profile_of s) cdb)
      ∙ ap (λ p. checked_parse t (command_in p cdb) data_out) profiles) d)

  by-both : (R : Step → Step → Type 0)
      → ((refusal : Refusal) → R (refused s i refusal) (refused t i refusal))
      → ((operation : Operation) → Asked s i cdb data_out operation
      → R (step_by s i operation) (step_by t i operation))
      → (checked : Result Operation Refusal) → checked_cdb s i cdb data_out ≡ checked
      → R (step_of_checked s i checked) (step_of_checked t i checked)
  by-both R r o (Err refusal) e =
      subst (R (step_of_checked s i (Err refusal))) (sym (refused-no-alert t i refusal))
      (subst (λ (done : Step). R done (refused t i refusal)) (sym (refused-no-alert s i refusal)) (r refusal))
  by-both R r o (Ok operation) e = o operation (asked s i cdb data_out operation e)

  pub lifted-both : (R : Step → Step → Type 0)
      → ((refusal : Refusal) → R (refused s i refusal) (refused t i refusal))
      → ((operation : Operation) → Asked s i cdb data_out operation
      → R (step_by s i operation) (step_by t i operation))
      → R (step s i cdb data_out) (step t i cdb data_out)
  lifted-both R r o =
      subst
      (λ (c : Result Operation Refusal). R (step s i cdb data_out) (step_of_checked t i c))
      checked-same
      (by-both R r o (checked_cdb s i cdb data_out) refl)
