-- An initiator that another registers is registered together with it, or takes its reservation over.
use Rattle.std.proofs.Common.{◌≡◌, ◌⊎◌, ◌==◌, ℕ, Bool, true, false, not, List, Option}
use Rattle.std.proofs.Common.{Result, Ok, Err, refl, sym, ap, ◌∙◌, inl, inr}
use Rattle.std.specs.Prelude.{is_some, unwrap_or}
use Rattle.std.specs.Result.{result_map_both}
use Rattle.std.proofs.lemmas.Bool.{and_parts, eqb-true, false≢true, ne_eqb, not-false}
use Rattle.sg_wire.specs.CdbDecoding.{command_in}
use Rattle.sg_wire.specs.Profile.{is_in, rules_of}
use Rattle.sg_wire.specs.ReservationAction.{out_profile}
use Rattle.sg_wire.specs.declared.command.CdbFault.{CdbFault}
use Rattle.sg_wire.specs.declared.command.Command.{Command}
use Rattle.sg_wire.specs.declared.command.Command.TheVariants.{PersistentReserveOut}
use Rattle.sg_wire.specs.declared.command.out_action.OutAction.{OutAction}
use Rattle.sg_wire.specs.declared.command.out_action.OutAction.TheVariants.{Register}
use Rattle.sg_wire.specs.declared.command.out_action.OutAction.TheVariants.{RegisterAndIgnoreExistingKey}
use Rattle.sg_wire.specs.declared.command.out_action.OutAction.TheVariants.{RegisterAndMove}
use Rattle.sg_wire.specs.declared.out_list.OutList.{OutList}
use Rattle.sg_wire.specs.declared.profile.Profile.{Profile}
use Rattle.sg_wire.specs.declared.profile.Profile.TheVariants.{Base, Extended}
use Rattle.sg_wire.specs.declared.profile.Rules.{Rules}
use Rattle.sg_wire.proofs.ProfileLemmas.{has-parts, is-in}
use Rattle.sg_units.specs.Registrations.{is_of, is_registered, key_of, with_registration, with_replaced}
use Rattle.sg_units.specs.Reservations.{is_holder}
use Rattle.sg_units.specs.ReserveOut.{Outcome, has_one_holder, move_cases, moved, moved_to, outcome}
use Rattle.sg_units.specs.ReserveOut.{register_cases}
use Rattle.sg_units.specs.ReserveOut.{register_together_cases, registration_by, with_moved}
use Rattle.sg_units.specs.declared.registrations.Registration.{Registration}
use Rattle.sg_units.specs.declared.reservation.Reservation.{Reservation}
use Rattle.sg_units.specs.declared.reservation_change.ReservationChange.{ReservationChange}
use Rattle.sg_units.specs.declared.reservation_state.ReservationState.{ReservationState}
use Rattle.sg_units.proofs.OutcomeLemmas.{EffectIs, FirstIs, case_or, choice, effective, if-supported}
use Rattle.sg_units.proofs.OutcomeLemmas.{last_case, refused}
use Rattle.sg_target.specs.Refusal.{when_sound}
use Rattle.sg_target.specs.ReservationCommands.{changing_reservations, out_refusal}
use Rattle.sg_target.specs.ReservationCommands.{reservation_change}
use Rattle.sg_target.specs.State.{State, profile_of}
use Rattle.sg_target.specs.Step.{step}
use Rattle.sg_fencing.specs.Fencing.{is_moving}
use Rattle.sg_fencing.specs.Registrants.{OthersAreRegisteredTogether}
use Rattle.sg_fencing.specs.Registrants.{held_by, is_registering, is_registrant, rules_for}
use Rattle.sg_fencing.proofs.KeyLemmas.{is_registered-key_of, key_of-push, key_of-replaced}
use Rattle.sg_fencing.proofs.KeyLemmas.{together-caller, together-one}
use Rattle.sg_fencing.proofs.OperationLemmas.{is_of_list_kind}
use Rattle.sg_fencing.proofs.RegistrationLemmas.{outcome-unknown, supports}
use Rattle.sg_fencing.proofs.MovedLemmas.{HeldBy, held-alone, moved-unknown, not-in-filter}
use Rattle.sg_fencing.proofs.StandingLemmas.{EffectStands, step-stands-in}

-- i was registered together with j
pub record Joins (rules : Rules) (before after : List Registration) (i j : ℕ) : Type 0 where
  pub supported : rules.specifies_ports ≡ true
  pub newcomer : is_registered before j ≡ false
  pub both : is_registered after j ≡ true
  pub one_key : key_of after i ≡ key_of after j

-- i takes the reservation of j over
pub record Takes (rules : Rules) (before : ReservationState) (after : Option Reservation) (i j : ℕ)
    : Type 0 where
  pub supported : rules.specifies_ports ≡ true
  pub held : HeldBy before.reservation before.registrations j
  pub taken : after ≡ held_by held.kind i

module _ (rules : Rules) (state : ReservationState) (i j : ℕ) (other : (j == i) ≡ false)
    (unknown : is_registered state.registrations i ≡ false) where
  abbrev all : List Registration
  all = state.registrations

  -- one of the two, if it is registered afterwards
  abbrev pub JoinsIf : ReservationChange → Type 0
  JoinsIf change =
      is_registered change.registrations i ≡ true
      → Joins rules all change.registrations i j ⊎ Takes rules state change.reservation i j

  absent : (change : ReservationChange) → is_registered change.registrations i ≡ false
      → EffectIs JoinsIf (Ok change)
  absent change gone =
      effective JoinsIf change (λ known. absurd (false≢true (sym gone ∙ known)))

  by-key : (rest : List Registration) → key_of rest i ≡ key_of all i → is_registered rest i ≡ false
  by-key rest e =
      is_registered-key_of rest i ∙ (ap is_some e ∙ (sym (is_registered-key_of all i) ∙ unknown))

  register-joins : (list : OutList) → FirstIs (EffectIs JoinsIf) (register_cases rules state j list)
  unfolding register_cases
  register-joins list =
      let own = registration_by list j in
      case_or (EffectIs JoinsIf) _ _ (λ _. absent _ unknown)
      (λ _. case_or (EffectIs JoinsIf) _ _ (λ _. refused JoinsIf _)
      (λ _. case_or (EffectIs JoinsIf) _ _
      (λ _. absent _ (by-key (with_registration all own) (key_of-push all i own other)))
      (λ _. case_or (EffectIs JoinsIf) _ _
      (λ _. absent _ (by-key (with_replaced all own) (key_of-replaced all i own other)))
      (λ _. last_case (EffectIs JoinsIf) _ _ refl
      (absent _ (not-in-filter (λ r. not (is_of j r)) all i unknown))))))

  together-joins : (list : OutList) → rules.specifies_ports ≡ true
      → FirstIs (EffectIs JoinsIf) (register_together_cases state j list)
  unfolding register_together_cases
  together-joins list supported =
      case_or (EffectIs JoinsIf) _ _ (λ _. absent _ unknown)
      (λ _. case_or (EffectIs JoinsIf) _ _ (λ _. refused JoinsIf _)
      (λ newcomer. case_or (EffectIs JoinsIf) _ _ (λ _. refused JoinsIf _)
      (λ _. case_or (EffectIs JoinsIf) _ _ (λ _. refused JoinsIf _)
      (λ _.
      let both = together-caller list all i j in
      last_case (EffectIs JoinsIf) _ _ refl
      (effective JoinsIf _ (λ known. inl (record {
        supported = supported;
        newcomer = newcomer;
        both = both;
        one_key = together-one list i all j unknown known ∙ sym (together-one list j all j newcomer both);
      })))))))

  -- i is the one that takes the reservation over
  takes : (list : OutList) (target : ℕ) → (same : Bool) → (target == i) ≡ same
      → is_registered (with_moved all j target list) i ≡ true → target ≡ i
  takes list target true e known = eqb-true target i e
  takes list target false e known =
      absurd (false≢true (sym (moved-unknown all i j target list unknown e) ∙ known))

  move-joins : (list : OutList) → rules.specifies_ports ≡ true
      → FirstIs (EffectIs JoinsIf) (move_cases state j list)
  unfolding move_cases
  move-joins list supported =
      let target = unwrap_or (moved_to list.others) j in
      case_or (EffectIs JoinsIf) _ _ (λ _. refused JoinsIf _)
      (λ _. case_or (EffectIs JoinsIf) _ _ (λ _. refused JoinsIf _)
      (λ holds. case_or (EffectIs JoinsIf) _ _ (λ _. refused JoinsIf _)
      (λ _. case_or (EffectIs JoinsIf) _ _ (λ _. refused JoinsIf _)
      (λ _. case_or (EffectIs JoinsIf) _ _ (λ _. refused JoinsIf _)
      (λ _. case_or (EffectIs JoinsIf) _ _ (λ _. refused JoinsIf _)
      (λ _. case_or (EffectIs JoinsIf) _ _ (λ _. refused JoinsIf _)
      (λ _.
      let parts = and_parts (has_one_holder state.reservation) (is_holder state j) (not-false _ holds) in
      let held = held-alone state.reservation all j parts.0 parts.1 in
      last_case (EffectIs JoinsIf) _ _ refl
      (effective JoinsIf _ (λ known. inr (record {
        supported = supported;
        held = held;
        taken =
            ap (λ held. moved held target) held.held_is
            ∙ ap (held_by held.kind) (takes list target (target == i) refl known);
      }))))))))))

  registering-joins : (action : OutAction) (scope_type : ℕ) (list : OutList)
      → is_registering action ≡ true → (is_moving action ≡ true → rules.specifies_ports ≡ true)
      → EffectIs JoinsIf (outcome rules state j action scope_type list)
  registering-joins Register scope_type list h moves =
      if-supported JoinsIf rules state j Register scope_type list
      (λ supported _. choice (EffectIs JoinsIf) list.spec_i_pt _ _
      (λ set. (together-joins list (supports rules list supported set)).first)
      (λ _. (register-joins list).first))
  registering-joins RegisterAndIgnoreExistingKey scope_type list h moves =
      if-supported JoinsIf rules state j RegisterAndIgnoreExistingKey scope_type list
      (λ _ _. (register-joins list).first)
  registering-joins RegisterAndMove scope_type list h moves =
      if-supported JoinsIf rules state j RegisterAndMove scope_type list
      (λ _ _. (move-joins list (moves refl)).first)
  registering-joins _ scope_type list h moves = absurd (false≢true h)

  pub outcome-joins : (action : OutAction) (scope_type : ℕ) (list : OutList)
      → (is_moving action ≡ true → rules.specifies_ports ≡ true)
      → EffectIs JoinsIf (outcome rules state j action scope_type list)
  outcome-joins action scope_type list moves = by-kind (is_registering action) refl
    where
      by-kind : (registers : Bool) → is_registering action ≡ registers
          → EffectIs JoinsIf (outcome rules state j action scope_type list)
      by-kind true e = registering-joins action scope_type list e moves
      by-kind false e = record {
        shown =
            λ change is known.
            let gone = (outcome-unknown rules state i j unknown action scope_type list
            (λ registers. absurd (false≢true (sym e ∙ registers)))).shown change is in
            absurd (false≢true (sym gone ∙ known));
      }

-- ---- A service action that the disk has

abbrev pub is_had : Profile → OutAction → OutList → Bool
is_had profile action list = is_in (out_profile action) profile

pub of-had : (profile : Profile) (cdb data_out : List ℕ) (parsed : Result Command CdbFault)
    → command_in profile cdb ≡ parsed → is_of_list_kind (is_had profile) parsed data_out ≡ true
of-had profile cdb data_out (Ok (PersistentReserveOut c)) e =
    (has-parts profile (PersistentReserveOut c) (is-in profile cdb (PersistentReserveOut c) e)).1
of-had profile cdb data_out (Ok _) e = refl
of-had profile cdb data_out (Err fault) e = refl

pub had-supports : (profile : Profile) (action : OutAction) → is_in (out_profile action) profile ≡ true
    → is_moving action ≡ true → (rules_of profile).specifies_ports ≡ true
had-supports Extended action has moves = refl
had-supports Base RegisterAndMove has moves = absurd (false≢true has)
had-supports Base _ has moves = absurd (false≢true moves)

module _ (state : State) (i j : ℕ) (other : j ≡ i → ⊥) (unknown : is_registrant state i ≡ false) where
  abbrev Stands : ReservationState → Type 0
  Stands after =
      is_registered after.registrations i ≡ true
      → Joins (rules_for state) state.reservations.registrations after.registrations i j
      ⊎ Takes (rules_for state) state.reservations after.reservation i j

  same : Stands state.reservations
  same known = absurd (false≢true (sym unknown ∙ known))

  abbrev P : ReservationChange → Type 0
  P = JoinsIf (rules_for state) state.reservations i j (ne_eqb j i other) unknown

  changing-stands : (o : Outcome) → EffectIs P o → EffectStands Stands state j same
      (when_sound (result_map_both (λ change. change) out_refusal o) (changing_reservations state j))
  changing-stands (Ok change) k = k.shown change refl
  changing-stands (Err fault) k = tt

  reserving-stands : (action : OutAction) (scope_type : ℕ) (list : OutList)
      → is_had (profile_of state) action list ≡ true → EffectStands Stands state j same
      (when_sound (reservation_change state j action scope_type list) (changing_reservations state j))
  unfolding reservation_change
  reserving-stands action scope_type list has =
      changing-stands (outcome (rules_for state) state.reservations j action scope_type list)
      (outcome-joins (rules_for state) state.reservations i j (ne_eqb j i other) unknown action scope_type
      list (had-supports (profile_of state) action has))

  joined : (cdb data_out : List ℕ) → Stands (step state j cdb data_out).state.reservations
  joined cdb data_out =
      step-stands-in Stands state j same (is_had (profile_of state)) reserving-stands cdb data_out
      (of-had (profile_of state) cdb data_out (command_in (profile_of state) cdb) refl)

pub registered-together : OthersAreRegisteredTogether
registered-together state i j cdb data_out other unknown known =
    elim (joined state i j other unknown cdb data_out known) [
      | inl it ↦ inl (record {
        supported = it.supported;
        newcomer = it.newcomer;
        both = it.both;
        one_key = it.one_key;
      })
      | inr it ↦ inr (record {
        supported = it.supported;
        registered = it.held.registered;
        type = it.held.kind;
        held = it.held.held_is;
        taken = it.taken;
      })
    ]
