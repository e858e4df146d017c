-- The effect of an unregistered initiator's command on a disk that is reserved.
use Rattle.std.proofs.Common.{◌≡◌, ℕ, Bool, true, false, not, ◌&&◌, ◌||◌, List, inl, inr}
use Rattle.std.proofs.Common.{Option, Some, None, Result, Ok, Err, refl, sym, ap, ◌∙◌}
use Rattle.std.specs.Prelude.{if◌then◌else◌, is_some}
use Rattle.std.specs.Option.{option_map_or}
use Rattle.std.specs.Result.{result_map_both}
use Rattle.std.proofs.lemmas.Bool.{and_left, false≢true, ne_eqb}
use Rattle.sg_wire.specs.FirstBytes.{first_bytes}
use Rattle.sg_wire.specs.Laws.{CommandsHaveTheirClass}
use Rattle.sg_wire.specs.CdbDecoding.{command_of}
use Rattle.sg_wire.specs.OutList.{list_of as out_list_of}
use Rattle.sg_wire.specs.declared.command.CdbFault.{CdbFault}
use Rattle.sg_wire.specs.declared.command.Class.TheVariants.{Reads, Writes}
use Rattle.sg_wire.specs.declared.command.Command.{Command}
use Rattle.sg_wire.specs.declared.command.Command.TheVariants.{PersistentReserveOut}
use Rattle.sg_wire.specs.declared.command.out_action.OutAction.{OutAction}
use Rattle.sg_units.specs.Access.{allows}
use Rattle.sg_units.specs.Laws.{OthersAreRefused}
use Rattle.sg_units.specs.Registrations.{is_registered}
use Rattle.sg_units.specs.Reservations.{holds, is_held_by}
use Rattle.sg_units.specs.ReservationType.{is_shared}
use Rattle.sg_units.specs.ReserveOut.{Outcome, outcome}
use Rattle.sg_wire.specs.declared.out_list.OutList.{OutList}
use Rattle.sg_units.specs.declared.reservation.Reservation.{Reservation}
use Rattle.sg_units.specs.declared.reservation_change.ReservationChange.{ReservationChange}
use Rattle.sg_units.specs.declared.reservation_state.ReservationState.{ReservationState}
use Rattle.sg_units.proofs.OutcomeLemmas.{EffectIs}
use Rattle.sg_target.specs.Refusal.{when_sound}
use Rattle.sg_target.specs.ReservationCommands.{changing_reservations, out_refusal}
use Rattle.sg_target.specs.ReservationCommands.{reservation_change}
use Rattle.sg_target.specs.State.{IsWithinLimits, State}
use Rattle.sg_target.specs.Step.{step}
use Rattle.sg_fencing.specs.Registrants.{asks_for, asks_to_register, excludes_reading, is_fenced_off}
use Rattle.sg_fencing.specs.Registrants.{is_registering, is_registrant, registers_another, rules_for}
use Rattle.sg_fencing.proofs.OthersLemmas.{EffectKeeps, Keeps, any_kind, changed-keeps, of-any-kind}
use Rattle.sg_fencing.proofs.OthersLemmas.{step-keeps}
use Rattle.sg_fencing.proofs.OperationLemmas.{is_of_list_kind}
use Rattle.sg_fencing.proofs.RegistrationLemmas.{IsUnknown, LeavesIf, Spares, is_spared, outcome-leaves}
use Rattle.sg_fencing.proofs.RegistrationLemmas.{outcome-unknown}
use Rattle.sg_fencing.proofs.StandingLemmas.{EffectStands, step-stands}

-- ---- What is refused to it

pub record IsShutOff (state : ReservationState) (j : ℕ) : Type 0 where
  pub writes : allows state j Writes ≡ false
  pub reads : excludes_reading state.reservation ≡ true → allows state j Reads ≡ false

shut-off : OthersAreRefused → (state : ReservationState) (held : Option Reservation) (j : ℕ)
    → state.reservation ≡ held → is_some held ≡ true → is_registered state.registrations j ≡ false
    → IsShutOff state j
shut-off refuses state None j e some unknown = absurd (false≢true some)
shut-off refuses state (Some r) j e some unknown =
    let rs = state.registrations in
    let is_refused =
    refuses state r j e
    (ap (λ h. is_held_by h rs j) e ∙ and_left (is_registered rs j) (holds r j) unknown)
    (and_left (is_registered rs j) (is_shared r.kind) unknown) in
    record {
      writes = is_refused.writes;
      reads = λ exclusive. is_refused.reads (sym (ap excludes_reading e) ∙ exclusive);
    }

pub record IsOutside (state : State) (j : ℕ) : Type 0 where
  pub held : is_some state.reservations.reservation ≡ true
  pub unknown : is_registered state.reservations.registrations j ≡ false

outside-by : (held known : Bool) → (held && not known) ≡ true → (held ≡ true) × (known ≡ false)
outside-by true true h = absurd (false≢true h)
outside-by true false h = (refl, refl)
outside-by false known h = absurd (false≢true h)

pub outside : (state : State) (j : ℕ) → is_fenced_off state j ≡ true → IsOutside state j
outside state j h =
    let parts = outside-by (is_some state.reservations.reservation)
    (is_registered state.reservations.registrations j) h in
    record { held = parts.0; unknown = parts.1 }

pub shut : OthersAreRefused → (state : State) (j : ℕ) → IsOutside state j
    → IsShutOff state.reservations j
shut refuses state j h =
    shut-off refuses state.reservations state.reservations.reservation j refl h.held h.unknown

-- ---- What it leaves of another's view

module _ (refuses : OthersAreRefused) (classes : CommandsHaveTheirClass) (state : State) (i j : ℕ)
    (other : j ≡ i → ⊥) (h : IsOutside state j) (w : IsWithinLimits state) where
  abbrev S : OutAction → OutList → ReservationChange → Type 0
  S action list change =
      is_registering action ≡ true
      → Spares (rules_for state) state.reservations i j (ne_eqb j i other) h.unknown list change

  abbrev L : OutAction → OutList → ReservationChange → Type 0
  L = LeavesIf (rules_for state) state.reservations i j (ne_eqb j i other) h.unknown

  -- a fact of the state afterwards, or of the list, says that i is spared
  module _ (Where : ReservationState → Type 0) (kind : OutAction → OutList → Bool)
      (spares : (action : OutAction) (list : OutList) (change : ReservationChange)
      → kind action list ≡ true → Where (changing_reservations state j change).after.reservations
      → S action list change) where
    changing-keeps : (action : OutAction) (list : OutList) → kind action list ≡ true → (o : Outcome)
        → EffectIs (L action list) o
        → EffectKeeps Where state i j other
        (when_sound (result_map_both (λ change. change) out_refusal o) (changing_reservations state j))
    changing-keeps action list of_kind (Ok change) k = λ met.
        let left = k.shown change refl (spares action list change of_kind met) in
        changed-keeps state i j w change left.key left.reservation left.unraised
    changing-keeps action list of_kind (Err fault) k = tt

    reserving-keeps : (action : OutAction) (scope_type : ℕ) (list : OutList)
        → kind action list ≡ true
        → EffectKeeps Where state i j other
        (when_sound (reservation_change state j action scope_type list) (changing_reservations state j))
    unfolding reservation_change
    reserving-keeps action scope_type list of_kind =
        changing-keeps action list of_kind
        (outcome (rules_for state) state.reservations j action scope_type list)
        (outcome-leaves (rules_for state) state.reservations i j (ne_eqb j i other) h.unknown action
        scope_type list)

    keeps-by : (cdb data_out : List ℕ) → is_of_list_kind kind (command_of cdb) data_out ≡ true
        → Where (step state j cdb data_out).state.reservations
        → Keeps state (step state j cdb data_out).state i
    keeps-by cdb data_out of_kind =
        step-keeps Where state i j other (shut refuses state j h).writes kind reserving-keeps classes cdb
        data_out of_kind

  -- it is not registered afterwards, so that it has registered nobody
  pub outsider-keeps : (cdb data_out : List ℕ)
      → is_registrant (step state j cdb data_out).state j ≡ false
      → Keeps state (step state j cdb data_out).state i
  outsider-keeps cdb data_out =
      keeps-by (λ (after : ReservationState). is_registered after.registrations j ≡ false) any_kind
      (λ action list change of_kind gone registers. inl gone)
      cdb data_out (of-any-kind (command_of cdb) data_out)

  -- it does not ask to register i, or i is registered
  abbrev sparing : OutAction → OutList → Bool
  sparing action list =
      not (is_registering action)
      || not (is_spared (rules_for state) state.reservations.registrations j i list)

  sparing-by : (registering asked : Bool) → (not registering || not asked) ≡ true → registering ≡ true
      → asked ≡ false
  sparing-by true true k e = absurd (false≢true k)
  sparing-by true false k e = refl
  sparing-by false asked k e = absurd (false≢true e)

  abbrev Always : ReservationState → Type 0
  Always after = Unit {0}

  sparing-kind : (parsed : Result Command CdbFault) (data_out : List ℕ)
      → (not (is_registrant state i) && asks_to_register (rules_for state) j i parsed data_out) ≡ false
      → is_of_list_kind sparing parsed data_out ≡ true
  sparing-kind (Ok (PersistentReserveOut c)) data_out spared =
      by-action (is_registering c.action) (out_list_of c.action (first_bytes c.list_length data_out)) spared
    where
      by-action : (registering : Bool) (list : OutList)
          → (not (is_registrant state i) && option_map_or (asks_for (rules_for state) j i)
          (if registering then Some list else None) false) ≡ false
          → (not registering || not (not (is_registrant state i) && asks_for (rules_for state) j i list))
          ≡ true
      by-action true list e = ap not e
      by-action false list e = refl
  sparing-kind (Ok _) data_out spared = refl
  sparing-kind (Err fault) data_out spared = refl

  pub outsider-spares : (cdb data_out : List ℕ) → registers_another state j i cdb data_out ≡ false
      → Keeps state (step state j cdb data_out).state i
  outsider-spares cdb data_out spared =
      keeps-by Always sparing
      (λ action list change of_kind always registers. inr (sparing-by (is_registering action)
      (is_spared (rules_for state) state.reservations.registrations j i list) of_kind registers))
      cdb data_out (sparing-kind (command_of cdb) data_out spared) tt

-- ---- Who stays unregistered

module _ (state : State) (i j : ℕ)
    (unknown : is_registered state.reservations.registrations i ≡ false) where
  abbrev Stays : ReservationState → Type 0
  Stays after = is_registered after.registrations i ≡ false

  abbrev U : ReservationChange → Type 0
  U = IsUnknown (rules_for state) state.reservations i j unknown

  -- it does not ask to register i
  abbrev spares : OutAction → OutList → Bool
  spares action list = not (is_registering action && asks_for (rules_for state) j i list)

  apart : (registering asked : Bool) → not (registering && asked) ≡ true → registering ≡ true
      → asked ≡ false
  apart true true h e = absurd (false≢true h)
  apart true false h e = refl
  apart false asked h e = absurd (false≢true e)

  changing-stands : (o : Outcome) → EffectIs U o → EffectStands Stays state j unknown
      (when_sound (result_map_both (λ change. change) out_refusal o) (changing_reservations state j))
  changing-stands (Ok change) k = k.shown change refl
  changing-stands (Err fault) k = tt

  reserving-stands : (action : OutAction) (scope_type : ℕ) (list : OutList)
      → spares action list ≡ true
      → EffectStands Stays state j unknown
      (when_sound (reservation_change state j action scope_type list) (changing_reservations state j))
  unfolding reservation_change
  reserving-stands action scope_type list h =
      changing-stands (outcome (rules_for state) state.reservations j action scope_type list)
      (outcome-unknown (rules_for state) state.reservations i j unknown action scope_type list
      (apart (is_registering action) (asks_for (rules_for state) j i list) h))

  spared : (registering : Bool) (list : OutList)
      → option_map_or (asks_for (rules_for state) j i)
      (if registering then Some list else None) false ≡ false
      → not (registering && asks_for (rules_for state) j i list) ≡ true
  spared true list h = ap not h
  spared false list h = refl

  of-kind : (parsed : Result Command CdbFault) (data_out : List ℕ)
      → asks_to_register (rules_for state) j i parsed data_out ≡ false
      → is_of_list_kind spares parsed data_out ≡ true
  of-kind (Ok (PersistentReserveOut c)) data_out h =
      spared (is_registering c.action) (out_list_of c.action (first_bytes c.list_length data_out)) h
  of-kind (Ok _) data_out h = refl
  of-kind (Err fault) data_out h = refl

  pub stays-unknown : (cdb data_out : List ℕ)
      → asks_to_register (rules_for state) j i (command_of cdb) data_out ≡ false
      → is_registered (step state j cdb data_out).state.reservations.registrations i ≡ false
  stays-unknown cdb data_out h =
      step-stands Stays state j unknown spares reserving-stands cdb data_out
      (of-kind (command_of cdb) data_out h)
