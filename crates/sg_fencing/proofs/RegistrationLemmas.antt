-- The effect of PERSISTENT RESERVE OUT if an initiator is not registered. Its own command leaves
-- all except its own registration and those that it asks for, and another initiator's command registers
-- it only if it names it.
use Rattle.std.proofs.Common.{◌≡◌, ◌⊎◌, ◌==◌, ℕ, Bool, true, false, not, ◌&&◌, ◌||◌, List}
use Rattle.std.proofs.Common.{Option, None, Ok, refl, sym, ap, ◌∙◌, inl, inr}
use Rattle.std.specs.Prelude.{if◌then◌else◌, is_some}
use Rattle.std.specs.List.{list_any}
use Rattle.std.proofs.lemmas.Bool.{false≢true, not-true, or_parts}
use Rattle.sg_wire.specs.declared.command.out_action.OutAction.{OutAction}
use Rattle.sg_wire.specs.declared.command.out_action.OutAction.TheVariants.{Register, Reserve}
use Rattle.sg_wire.specs.declared.command.out_action.OutAction.TheVariants.{Release, Clear, Preempt}
use Rattle.sg_wire.specs.declared.command.out_action.OutAction.TheVariants.{PreemptAndAbort}
use Rattle.sg_wire.specs.declared.command.out_action.OutAction.TheVariants.{RegisterAndIgnoreExistingKey}
use Rattle.sg_wire.specs.declared.command.out_action.OutAction.TheVariants.{RegisterAndMove}
use Rattle.sg_units.specs.Registrations.{is_of, is_registered, is_registered_under, key_of}
use Rattle.sg_units.specs.Registrations.{with_registration, with_replaced}
use Rattle.sg_units.specs.ReservationType.{type_of}
use Rattle.sg_units.specs.ReserveOut.{Outcome, accepts_key, action_outcome, outcome, preempt_cases}
use Rattle.sg_units.specs.ReserveOut.{move_cases, register_cases, register_together_cases}
use Rattle.sg_units.specs.ReserveOut.{registered_together}
use Rattle.sg_units.specs.ReserveOut.{registration_by, release_cases, reserve_cases, state_after}
use Rattle.sg_units.specs.UnsupportedFlags.{has_unsupported_flag}
use Rattle.sg_wire.specs.declared.out_list.OutList.{OutList}
use Rattle.sg_wire.specs.declared.profile.Rules.{Rules}
use Rattle.sg_units.specs.declared.registrations.Registration.{Registration}
use Rattle.sg_units.specs.declared.reservation_change.ReservationChange.{ReservationChange}
use Rattle.sg_units.specs.declared.reservation_state.ReservationState.{ReservationState}
use Rattle.sg_units.specs.declared.types.ReservationType.{ReservationType}
use Rattle.sg_units.specs.declared.unit_attention.UnitAttention.{UnitAttention}
use Rattle.sg_units.proofs.OutcomeLemmas.{EffectIs, FirstIs, and_false, case_or, choice, effective}
use Rattle.sg_units.proofs.OutcomeLemmas.{if-supported, last_case, refused, releasing, taking, typed}
use Rattle.sg_fencing.specs.Registrants.{asks_for, is_named, is_registering, names}
use Rattle.sg_fencing.proofs.KeyLemmas.{is_registered-key_of, key_of-push, key_of-replaced, pushed-known}
use Rattle.sg_fencing.proofs.KeyLemmas.{together-caller, together-known, together-other}
use Rattle.sg_fencing.proofs.MovedLemmas.{moved-unknown, not-in-filter, not-under, target-other}
use Rattle.sg_fencing.proofs.ReserveOutLemmas.{IsLeft}

-- ---- The command of an initiator that is not registered

-- nothing is raised for anybody
pub nothing : (a b : Bool) (remaining removed : Option UnitAttention) → remaining ≡ None
    → removed ≡ None → (if a then None else (if b then remaining else removed)) ≡ None
nothing true b remaining removed e f = refl
nothing false true remaining removed e f = e
nothing false false remaining removed e f = f

pub not_so : (b : Bool) → b ≡ false → not b ≡ false → ⊥
not_so true h e = false≢true (sym h)
not_so false h e = false≢true (sym e)

-- a disk that accepts SPEC_I_PT supports it
supported-by : (supported asked ports : Bool) → (not supported && (asked || ports)) ≡ false
    → asked ≡ true → supported ≡ true
supported-by true asked ports passed set = refl
supported-by false true ports passed set = absurd (false≢true (sym passed))
supported-by false false ports passed set = absurd (false≢true set)

pub supports : (rules : Rules) (list : OutList) → has_unsupported_flag rules Register list ≡ false
    → list.spec_i_pt ≡ true → rules.specifies_ports ≡ true
supports rules list passed set =
    supported-by rules.specifies_ports list.spec_i_pt list.all_tg_pt passed set

-- a list that names nobody, on a disk that supports it
not-listed : (rules : Rules) (list : OutList) (i : ℕ) → rules.specifies_ports ≡ true
    → names rules list i ≡ false → list_any (is_named i) list.others ≡ false
not-listed rules list i supported none =
    sym (ap (λ b. (b || not list.spec_i_pt) && list_any (is_named i) list.others) supported) ∙ none

-- and one of REGISTER AND MOVE, which has no SPEC_I_PT
moves-by : (supported set any : Bool) → set ≡ false → ((supported || not set) && any) ≡ false
    → any ≡ false
moves-by true false any e h = h
moves-by false false any e h = h
moves-by supported true any e h = absurd (false≢true (sym e))

-- with a key other than zero, a list that does not ask for i names it neither
keyed-by : (zero asked : Bool) → (not zero && asked) ≡ false → zero ≡ false → asked ≡ false
keyed-by true asked h e = absurd (false≢true (sym e))
keyed-by false asked h e = h

-- i is registered, or the list does not ask for it
abbrev pub is_spared : Rules → List Registration → (j i : ℕ) → OutList → Bool
is_spared rules rs j i list = not (is_registered rs i) && asks_for rules j i list

spared-key : (rules : Rules) (list : OutList) (rs : List Registration) (i j : ℕ) → (j == i) ≡ false
    → is_spared rules rs j i list ≡ false → (list.service_action_key == 0) ≡ false
    → rules.specifies_ports ≡ true → key_of (registered_together rs j list) i ≡ key_of rs i
spared-key rules list rs i j other spared keyed supported = by-known (is_registered rs i) refl spared
  where
    by-known : (known : Bool) → is_registered rs i ≡ known
        → (not known && asks_for rules j i list) ≡ false
        → key_of (registered_together rs j list) i ≡ key_of rs i
    by-known true e h = together-known list rs i j e
    by-known false e h =
        let asked = or_parts _ _ (keyed-by (list.service_action_key == 0) _ h keyed) in
        together-other list rs i j other (not-listed rules list i supported asked.1)

-- It has the outcome of one that registers, or is refused.
module _ (rules : Rules) (state : ReservationState) (j : ℕ)
    (unknown : is_registered state.registrations j ≡ false) (P : ReservationChange → Type 0)
    (list : OutList) where
  not-own : (key : ℕ) → is_registered_under state.registrations j key ≡ true → ⊥
  not-own key h = false≢true (sym (not-under state.registrations j key unknown) ∙ h)

  abbrev Registering : Type 0
  Registering = FirstIs (EffectIs P) (register_cases rules state j list)

  abbrev Together : Type 0
  Together = FirstIs (EffectIs P) (register_together_cases state j list)

  by-action : (action : OutAction) (type : Option ReservationType) (key : ℕ)
      → (is_registering action ≡ true → Registering)
      → (is_registering action ≡ true → rules.specifies_ports ≡ true → Together)
      → has_unsupported_flag rules action list ≡ false
      → accepts_key state.registrations j action key ≡ true
      → EffectIs P (action_outcome rules state j action type list)
  by-action Register type key registering together supported h =
      choice (EffectIs P) list.spec_i_pt _ _
      (λ set. (together refl (supports rules list supported set)).first)
      (λ _. (registering refl).first)
  by-action RegisterAndIgnoreExistingKey type key registering together supported h =
      (registering refl).first
  by-action Reserve type key registering together supported h = absurd (not-own key h)
  by-action Release type key registering together supported h = absurd (not-own key h)
  by-action Clear type key registering together supported h = absurd (not-own key h)
  by-action Preempt type key registering together supported h = absurd (not-own key h)
  by-action PreemptAndAbort type key registering together supported h = absurd (not-own key h)
  by-action RegisterAndMove type key registering together supported h = absurd (not-own key h)

  by-registering : (action : OutAction) (scope_type : ℕ)
      → (is_registering action ≡ true → Registering)
      → (is_registering action ≡ true → rules.specifies_ports ≡ true → Together)
      → EffectIs P (outcome rules state j action scope_type list)
  by-registering action scope_type registering together =
      if-supported P rules state j action scope_type list
      (by-action action (type_of scope_type) list.reservation_key registering together)

module _ (rules : Rules) (state : ReservationState) (i j : ℕ) (other : (j == i) ≡ false)
    (unknown : is_registered state.registrations j ≡ false) where
  abbrev pub Leaves : ReservationChange → Type 0
  Leaves = IsLeft state.registrations state.reservation i j

  left : (change : ReservationChange) → key_of change.registrations i ≡ key_of state.registrations i
      → change.reservation ≡ state.reservation → change.for_remaining ≡ None
      → change.for_removed ≡ None → EffectIs Leaves (Ok change)
  left change key same remaining removed = effective Leaves change (record {
    key = key;
    reservation = same;
    unraised =
        nothing (i == j || not (is_registered state.registrations i))
        (is_registered change.registrations i) change.for_remaining change.for_removed remaining removed;
  })

  register-leaves : (list : OutList) → FirstIs (EffectIs Leaves) (register_cases rules state j list)
  unfolding register_cases
  register-leaves list =
      case_or (EffectIs Leaves) _ _ (λ _. left _ refl refl refl refl)
      (λ _. case_or (EffectIs Leaves) _ _ (λ _. refused Leaves _)
      (λ _. case_or (EffectIs Leaves) _ _
      (λ _. left _ (key_of-push state.registrations i (registration_by list j) other) refl refl refl)
      (λ known. absurd (not_so (is_registered state.registrations j) unknown known))))

  -- j is not registered afterwards, or i is spared
  abbrev pub Spares : OutList → ReservationChange → Type 0
  Spares list change =
      (is_registered change.registrations j ≡ false)
      ⊎ (is_spared rules state.registrations j i list ≡ false)

  abbrev pub LeavesIf : OutAction → OutList → ReservationChange → Type 0
  LeavesIf action list change = (is_registering action ≡ true → Spares list change) → Leaves change

  always : (action : OutAction) (list : OutList) (o : Outcome) → EffectIs Leaves o
      → EffectIs (LeavesIf action list) o
  always action list o h = record { shown = λ change e _. h.shown change e }

  together-leaves : (action : OutAction) (list : OutList) → is_registering action ≡ true
      → rules.specifies_ports ≡ true
      → FirstIs (EffectIs (LeavesIf action list)) (register_together_cases state j list)
  unfolding register_together_cases
  together-leaves action list registers supported =
      let P = LeavesIf action list in
      case_or (EffectIs P) _ _ (λ _. effective P _ (λ _. (left _ refl refl refl refl).shown _ refl))
      (λ some. case_or (EffectIs P) _ _ (λ _. refused P _)
      (λ new. case_or (EffectIs P) _ _ (λ _. refused P _)
      (λ _. case_or (EffectIs P) _ _ (λ _. refused P _)
      (λ _. last_case (EffectIs P) _ _ refl (effective P _ (λ spares. elim (spares registers) [
        | inl gone ↦
            absurd (false≢true (sym gone ∙ together-caller list state.registrations j j))
        | inr spared ↦
            (left _ (spared-key rules list state.registrations i j other spared
            (and_false _ _ (ap not new) some) supported) refl refl refl).shown _ refl
      ]))))))

  pub outcome-leaves : (action : OutAction) (scope_type : ℕ) (list : OutList)
      → EffectIs (LeavesIf action list) (outcome rules state j action scope_type list)
  outcome-leaves action scope_type list =
      by-registering rules state j unknown (LeavesIf action list) list action scope_type
      (λ _. record { first = always action list _ (register-leaves list).first })
      (together-leaves action list)

-- ---- Whether it is registered afterwards

module _ (rules : Rules) (state : ReservationState) (j : ℕ)
    (unknown : is_registered state.registrations j ≡ false) where
  -- all is as it was, unless j is registered afterwards
  abbrev pub IsIdle : ReservationChange → Type 0
  IsIdle change = is_registered change.registrations j ≡ false → state_after state (Ok change) ≡ state

  register-idle : (list : OutList) → FirstIs (EffectIs IsIdle) (register_cases rules state j list)
  unfolding register_cases
  register-idle list =
      case_or (EffectIs IsIdle) _ _ (λ _. effective IsIdle _ (λ _. refl))
      (λ _. case_or (EffectIs IsIdle) _ _ (λ _. refused IsIdle _)
      (λ _. case_or (EffectIs IsIdle) _ _
      (λ _. effective IsIdle _ (λ gone. absurd (false≢true
      (sym gone ∙ pushed-known state.registrations (registration_by list j)))))
      (λ known. absurd (not_so (is_registered state.registrations j) unknown known))))

  together-idle : (list : OutList) → FirstIs (EffectIs IsIdle) (register_together_cases state j list)
  unfolding register_together_cases
  together-idle list =
      case_or (EffectIs IsIdle) _ _ (λ _. effective IsIdle _ (λ _. refl))
      (λ _. case_or (EffectIs IsIdle) _ _ (λ _. refused IsIdle _)
      (λ _. case_or (EffectIs IsIdle) _ _ (λ _. refused IsIdle _)
      (λ _. case_or (EffectIs IsIdle) _ _ (λ _. refused IsIdle _)
      (λ _. last_case (EffectIs IsIdle) _ _ refl
      (effective IsIdle _ (λ gone. absurd (false≢true
      (sym gone ∙ together-caller list state.registrations j j))))))))

  pub outcome-idle : (action : OutAction) (scope_type : ℕ) (list : OutList)
      → EffectIs IsIdle (outcome rules state j action scope_type list)
  outcome-idle action scope_type list =
      by-registering rules state j unknown IsIdle list action scope_type (λ _. register-idle list)
      (λ _ _. together-idle list)

-- ---- An initiator stays unregistered

-- i is not registered, and the command of j does not ask to register it.
module _ (rules : Rules) (state : ReservationState) (i j : ℕ)
    (unknown : is_registered state.registrations i ≡ false) where
  abbrev pub IsUnknown : ReservationChange → Type 0
  IsUnknown change = is_registered change.registrations i ≡ false

  by-key : (rest : List Registration) → key_of rest i ≡ key_of state.registrations i
      → is_registered rest i ≡ false
  by-key rest e =
      is_registered-key_of rest i
      ∙ (ap is_some e ∙ (sym (is_registered-key_of state.registrations i) ∙ unknown))

  stays : (change : ReservationChange) → IsUnknown change → EffectIs IsUnknown (Ok change)
  stays change h = effective IsUnknown change h

  registering-other : (list : OutList) → asks_for rules j i list ≡ false
      → FirstIs (EffectIs IsUnknown) (register_cases rules state j list)
  unfolding register_cases
  registering-other list spared =
      let all = state.registrations in
      let own = registration_by list j in
      let gone = not-in-filter (λ r. not (is_of j r)) all i unknown in
      let asked : (list.service_action_key == 0) ≡ false → (j == i || names rules list i) ≡ false =
      λ keyed. keyed-by (list.service_action_key == 0) _ spared keyed in
      case_or (EffectIs IsUnknown) _ _ (λ _. stays _ unknown)
      (λ keyed. case_or (EffectIs IsUnknown) _ _ (λ _. refused IsUnknown _)
      (λ _. case_or (EffectIs IsUnknown) _ _
      (λ new.
      let other = (or_parts _ _ (asked (and_false _ _ new keyed))).0 in
      stays _ (by-key (with_registration all own) (key_of-push all i own other)))
      (λ _. case_or (EffectIs IsUnknown) _ _
      (λ keyed.
      let other = (or_parts _ _ (asked (not-true _ keyed))).0 in
      stays _ (by-key (with_replaced all own) (key_of-replaced all i own other)))
      (λ _. last_case (EffectIs IsUnknown) _ _ refl (stays _ gone)))))

  together-unknown : (list : OutList) → asks_for rules j i list ≡ false → rules.specifies_ports ≡ true
      → FirstIs (EffectIs IsUnknown) (register_together_cases state j list)
  unfolding register_together_cases
  together-unknown list spared supported =
      let all = state.registrations in
      case_or (EffectIs IsUnknown) _ _ (λ _. stays _ unknown)
      (λ some. case_or (EffectIs IsUnknown) _ _ (λ _. refused IsUnknown _)
      (λ new. case_or (EffectIs IsUnknown) _ _ (λ _. refused IsUnknown _)
      (λ _. case_or (EffectIs IsUnknown) _ _ (λ _. refused IsUnknown _)
      (λ _.
      let keyed = and_false _ _ (ap not new) some in
      let asked = or_parts _ _ (keyed-by (list.service_action_key == 0) _ spared keyed) in
      last_case (EffectIs IsUnknown) _ _ refl
      (stays _
      (by-key _ (together-other list all i j asked.0 (not-listed rules list i supported asked.1))))))))

  move-unknown : (list : OutList) → asks_for rules j i list ≡ false → list.spec_i_pt ≡ false
      → FirstIs (EffectIs IsUnknown) (move_cases state j list)
  unfolding move_cases
  move-unknown list spared alone =
      case_or (EffectIs IsUnknown) _ _ (λ _. refused IsUnknown _)
      (λ _. case_or (EffectIs IsUnknown) _ _ (λ _. refused IsUnknown _)
      (λ _. case_or (EffectIs IsUnknown) _ _ (λ _. refused IsUnknown _)
      (λ keyed. case_or (EffectIs IsUnknown) _ _ (λ _. refused IsUnknown _)
      (λ _. case_or (EffectIs IsUnknown) _ _ (λ _. refused IsUnknown _)
      (λ _. case_or (EffectIs IsUnknown) _ _ (λ _. refused IsUnknown _)
      (λ another. case_or (EffectIs IsUnknown) _ _ (λ _. refused IsUnknown _)
      (λ _.
      let asked = or_parts _ _ (keyed-by (list.service_action_key == 0) _ spared keyed) in
      let none = moves-by rules.specifies_ports list.spec_i_pt _ alone asked.1 in
      last_case (EffectIs IsUnknown) _ _ refl
      (stays _
      (moved-unknown state.registrations i j _ list unknown
      (target-other list.others i j none another))))))))))

  reserving : (type : ReservationType) → FirstIs (EffectIs IsUnknown) (reserve_cases state j type)
  unfolding reserve_cases
  reserving type =
      case_or (EffectIs IsUnknown) _ _ (λ _. stays _ unknown)
      (λ _. case_or (EffectIs IsUnknown) _ _ (λ _. stays _ unknown)
      (λ _. last_case (EffectIs IsUnknown) _ _ refl (refused IsUnknown _)))

  unreleased : (type : ReservationType) → FirstIs (EffectIs IsUnknown) (release_cases state j type)
  unfolding release_cases
  unreleased type =
      case_or (EffectIs IsUnknown) _ _ (λ _. stays _ unknown)
      (λ _. case_or (EffectIs IsUnknown) _ _ (λ _. refused IsUnknown _)
      (λ _. last_case (EffectIs IsUnknown) _ _ refl (stays _ unknown)))

  preempting : (type : Option ReservationType) (sark : ℕ)
      → FirstIs (EffectIs IsUnknown) (preempt_cases rules state j type sark)
  unfolding preempt_cases
  preempting type sark =
      let gone = λ (p : Registration → Bool). not-in-filter p state.registrations i unknown in
      case_or (EffectIs IsUnknown) _ _ (λ _. refused IsUnknown _)
      (λ _. case_or (EffectIs IsUnknown) _ _ (λ _. refused IsUnknown _)
      (λ _. case_or (EffectIs IsUnknown) _ _
      (λ _. taking IsUnknown state.reservation j type _ (λ type. stays _ (gone _)))
      (λ _. case_or (EffectIs IsUnknown) _ _
      (λ _. taking IsUnknown state.reservation j type _ (λ type. stays _ (gone _)))
      (λ _. case_or (EffectIs IsUnknown) _ _ (λ _. refused IsUnknown _)
      (λ _. last_case (EffectIs IsUnknown) _ _ refl (stays _ (gone _)))))))

  action-unknown : (action : OutAction) (type : Option ReservationType) (list : OutList)
      → (is_registering action ≡ true → asks_for rules j i list ≡ false)
      → has_unsupported_flag rules action list ≡ false
      → EffectIs IsUnknown (action_outcome rules state j action type list)
  action-unknown Register type list h supported =
      choice (EffectIs IsUnknown) list.spec_i_pt _ _
      (λ set. (together-unknown list (h refl) (supports rules list supported set)).first)
      (λ _. (registering-other list (h refl)).first)
  action-unknown RegisterAndIgnoreExistingKey type list h supported =
      (registering-other list (h refl)).first
  action-unknown Reserve type list h supported =
      typed IsUnknown type _ (λ type. (reserving type).first)
  action-unknown Release type list h supported =
      releasing IsUnknown state j type unknown unreleased
  action-unknown Clear type list h supported = stays _ refl
  action-unknown Preempt type list h supported = (preempting type list.service_action_key).first
  action-unknown PreemptAndAbort type list h supported =
      (preempting type list.service_action_key).first
  action-unknown RegisterAndMove type list h supported = (move-unknown list (h refl) supported).first

  pub outcome-unknown : (action : OutAction) (scope_type : ℕ) (list : OutList)
      → (is_registering action ≡ true → asks_for rules j i list ≡ false)
      → EffectIs IsUnknown (outcome rules state j action scope_type list)
  outcome-unknown action scope_type list h =
      if-supported IsUnknown rules state j action scope_type list
      (λ supported _. action-unknown action (type_of scope_type) list h supported)
