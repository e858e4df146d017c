-- A command of a class that the reservation does not allow does not end with GOOD.
use Rattle.std.specs.FinMap.{len}
use Rattle.std.proofs.Common.{◌≡◌, ℕ, true, false, List, ◌∷◌, Option, Some, None, Ok, refl, ap, sym}
use Rattle.std.proofs.Common.{◌∙◌}
use Rattle.sg_wire.specs.Laws.{CommandsHaveTheirClass}
use Rattle.sg_wire.specs.CdbDecoding.{class_in, class_of, command_in}
use Rattle.sg_wire.specs.declared.command.Class.{Class}
use Rattle.sg_wire.specs.declared.profile.Profile.TheVariants.{Extended}
use Rattle.sg_wire.proofs.ClassLemmas.{class-of_command}
use Rattle.sg_store.specs.Disk.{Contents}
use Rattle.sg_units.specs.Access.{allows}
use Rattle.sg_target.specs.Checks.{cdb_checks, checked_cdb, empty_cdb, outranking_attention}
use Rattle.sg_target.specs.Checks.{reservation_conflict}
use Rattle.sg_target.specs.Refusal.{first_some}
use Rattle.sg_target.specs.State.{State, config_of, profile_of}
use Rattle.sg_target.specs.Step.{Step, step}
use Rattle.sg_target.specs.declared.operation.Operation.{Operation}
use Rattle.sg_target.specs.declared.refusal.Refusal.{Refusal}
use Rattle.sg_target.specs.declared.refusal.Refusal.TheVariants.{Conflict}
use Rattle.sg_target.specs.declared.reply.Status.TheVariants.{Good}
use Rattle.sg_target.proofs.LiftLemmas.{Asked, asked, lifted, not_good}
use Rattle.sg_fencing.specs.Fencing.{CountsAsMany, counts_used}
use Rattle.sg_fencing.proofs.OperationLemmas.{asked-suits, class_for, shows_number}

module _ (state : State) (j : ℕ) where
  conflict : (cdb : List ℕ) (class : Class) → class_in (profile_of state) cdb ≡ Some class
      → allows state.reservations j class ≡ false
      → reservation_conflict state j cdb ≡ Some Conflict
  conflict cdb class is not_allowed = rw (is, not_allowed) refl

  no_conflict : (a b c : Option Refusal) (rest : List (Option Refusal))
      → first_some (a ∷ b ∷ c ∷ rest) ≡ None → c ≡ Some Conflict → ⊥
  no_conflict None None (Some x) rest h k = cc
  no_conflict None None None rest h k = cc
  no_conflict (Some x) b c rest h k = cc
  no_conflict None (Some x) c rest h k = cc

  -- a command that has passed the checks of its CDB is of a class that is allowed
  pub passed-is-allowed : (cdb : List ℕ) (class : Class) → first_some (cdb_checks state j cdb) ≡ None
      → class_in (profile_of state) cdb ≡ Some class → allows state.reservations j class ≡ false → ⊥
  passed-is-allowed cdb class passed is not_allowed =
      let command = command_in (profile_of state) cdb in
      no_conflict (empty_cdb command) (outranking_attention state j cdb)
      (reservation_conflict state j cdb) _ passed (conflict cdb class is not_allowed)

  -- it does not ask for an operation of a class that is not allowed
  pub asked-is-allowed : CommandsHaveTheirClass → (cdb data_out : List ℕ) (operation : Operation)
      (class : Class) → Asked state j cdb data_out operation → allows state.reservations j class ≡ false
      → class_for operation ≡ Some class → ⊥
  asked-is-allowed classes cdb data_out operation class k not_allowed is =
      let of_class =
      (asked-suits (config_of state) k.command data_out operation k.operation_is).class class is in
      passed-is-allowed cdb class k.passed
      (classes (profile_of state) cdb k.command k.read_as ∙ ap Some of_class) not_allowed

  -- only a command that counts the used addresses asks for an operation that shows their number
  pub asked-number : (x : Contents) (cdb data_out : List ℕ) → CountsAsMany state x cdb
      → (operation : Operation) → Asked state j cdb data_out operation
      → shows_number operation ≡ true → len x ≡ len state.disk.contents
  asked-number x cdb data_out none operation k shows =
      let its = asked-suits (config_of state) k.command data_out operation k.operation_is in
      none (ap counts_used k.read_as ∙ its.number shows)

  -- the class of a command is its class on the disk
  on-disk : (cdb data_out : List ℕ) (class : Class) (operation : Operation)
      → Asked state j cdb data_out operation → class_of cdb ≡ Some class
      → class_in (profile_of state) cdb ≡ Some class
  on-disk cdb data_out class operation k is =
      class-of_command (profile_of state) cdb k.command k.read_as
      ∙ sym (class-of_command Extended cdb k.command k.command_is) ∙ is

  -- a command of a class that is not allowed does not end with GOOD
  pub shut-out : (cdb data_out : List ℕ) (class : Class) → class_of cdb ≡ Some class
      → allows state.reservations j class ≡ false
      → (step state j cdb data_out).answer.status ≡ Good → ⊥
  shut-out cdb data_out class is not_allowed =
      lifted state j cdb data_out (λ (done : Step). done.answer.status ≡ Good → ⊥) (not_good state j)
      (λ operation k e. passed-is-allowed cdb class k.passed
      (on-disk cdb data_out class operation k is) not_allowed)

  -- the checks do not pass it
  pub checks-refuse : (cdb data_out : List ℕ) (class : Class) → class_of cdb ≡ Some class
      → allows state.reservations j class ≡ false → (operation : Operation)
      → checked_cdb state j cdb data_out ≡ Ok operation → ⊥
  checks-refuse cdb data_out class is not_allowed operation e =
      let k = asked state j cdb data_out operation e in
      passed-is-allowed cdb class k.passed (on-disk cdb data_out class operation k is) not_allowed
