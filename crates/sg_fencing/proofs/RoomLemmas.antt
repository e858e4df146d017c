-- An extended disk has room for a registration of each initiator.
use Rattle.std.proofs.Common.{◌≡◌, ◌≢◌, ◌<◌, ◌≤◌, ◌+◌, ◌==◌, ℕ, zero, suc, Bool, true, false, cond, not}
use Rattle.std.proofs.Common.{◌&&◌, ◌||◌, List, [], ◌∷◌, length, drop, map, Option, Some, None}
use Rattle.std.proofs.Common.{Result, Ok, Err, refl, sym, ap, ◌∙◌, arith}
use Rattle.std.specs.Prelude.{if◌then◌else◌, is_some, nat_le, nat_lt, unwrap_or}
use Rattle.std.specs.List.{list_any, range_with_len}
use Rattle.std.specs.Option.{option_map_or}
use Rattle.std.specs.Result.{result_map_both}
use Rattle.std.proofs.lemmas.Bool.{and_parts, cond_both, not-true, or_from, or_parts}
use Rattle.std.proofs.lemmas.Bool.Decides.{nat_tests}
use Rattle.std.proofs.lemmas.List.{length-append}
use Rattle.sg_wire.specs.FirstBytes.{first_bytes}
use Rattle.sg_wire.specs.Initiator.{initiator_count}
use Rattle.sg_wire.specs.OutList.{has_transport_ids, list_of, transport_ids_at}
use Rattle.sg_wire.specs.TransportId.{id_at, id_count, named_by, named_initiators}
use Rattle.sg_wire.specs.declared.command.CdbFault.{CdbFault}
use Rattle.sg_wire.specs.declared.command.Command.{Command}
use Rattle.sg_wire.specs.declared.command.Command.TheVariants.{PersistentReserveOut}
use Rattle.sg_wire.specs.declared.command.out_action.OutAction.{OutAction}
use Rattle.sg_wire.specs.declared.command.out_action.OutAction.TheVariants.{Register, Reserve}
use Rattle.sg_wire.specs.declared.command.out_action.OutAction.TheVariants.{Release, Clear, Preempt}
use Rattle.sg_wire.specs.declared.command.out_action.OutAction.TheVariants.{PreemptAndAbort}
use Rattle.sg_wire.specs.declared.command.out_action.OutAction.TheVariants.{RegisterAndIgnoreExistingKey}
use Rattle.sg_wire.specs.declared.command.out_action.OutAction.TheVariants.{RegisterAndMove}
use Rattle.sg_wire.specs.declared.out_list.OutList.{OutList}
use Rattle.sg_wire.specs.declared.profile.Rules.{Rules}
use Rattle.sg_units.specs.Registrations.{is_of, is_registered, key_of, max_registrations, registrations_of}
use Rattle.sg_units.specs.Registrations.{with_registration, without_initiator}
use Rattle.sg_units.specs.Reservations.{IsConsistent, is_holder}
use Rattle.sg_units.specs.ReservationType.{type_of}
use Rattle.sg_units.specs.ReserveOut.{Outcome, accepts_key, action_outcome, move_cases, moved_to, outcome}
use Rattle.sg_units.specs.ReserveOut.{preempt_cases, preempted, register_cases, register_together_cases}
use Rattle.sg_units.specs.ReserveOut.{registered_together, registration_by, release_cases, reserve_cases}
use Rattle.sg_units.specs.ReserveOut.{with_moved, with_type}
use Rattle.sg_units.specs.UnsupportedFlags.{has_unsupported_flag}
use Rattle.sg_units.specs.declared.out_fault.OutFault.TheVariants.{BadRelease, BadType, Conflict, Field}
use Rattle.sg_units.specs.declared.out_fault.OutFault.TheVariants.{NoReservation, NoRoom}
use Rattle.sg_units.specs.declared.registrations.Registration.{Registration}
use Rattle.sg_units.specs.declared.reservation.Reservation.{Reservation}
use Rattle.sg_units.specs.declared.reservation_change.ReservationChange.{ReservationChange}
use Rattle.sg_units.specs.declared.reservation_state.ReservationState.{ReservationState}
use Rattle.sg_units.specs.declared.types.ReservationType.{ReservationType}
use Rattle.sg_units.proofs.ConsistencyLemmas.{nearly, nearly-each, nearly-push, registrations_of-cons}
use Rattle.sg_units.proofs.ConsistencyLemmas.{registrations_of-filter}
use Rattle.sg_units.proofs.MoveLemmas.{nearly-moved}
use Rattle.sg_units.proofs.OutcomeLemmas.{FirstIs, and_false, case_or, choice, last_case}
use Rattle.sg_target.specs.ReservationCommands.{out_refusal}
use Rattle.sg_target.specs.declared.refusal.Reason.TheVariants.{InsufficientRegistrationResources}
use Rattle.sg_target.specs.declared.refusal.Refusal.TheVariants.{CheckCondition}
use Rattle.sg_fencing.specs.Registrants.{asks_for, asks_to_register, is_named, is_registering}
use Rattle.sg_fencing.proofs.KeyLemmas.{is_registered-key_of, key_of-push, key_of-unregistered}
use Rattle.sg_fencing.proofs.KeyLemmas.{together-other}
use Rattle.sg_fencing.proofs.MovedLemmas.{moved-unknown, not-in-filter, target-other}

-- ---- No list of registrations is longer than the initiators that it is of

-- none is of a number from n on
abbrev pub AreBelow : (n : ℕ) → List Registration → Type 0
AreBelow n rs = (i : ℕ) → n ≤ i → is_registered rs i ≡ false

abbrev OneEach : List Registration → Type 0
OneEach rs = (i : ℕ) → registrations_of rs i ≤ 1

-- those of an initiator, and the others
apart : (r : Registration) (rs : List Registration) (i : ℕ) (b : Bool) → is_of i r ≡ b
    → length rs ≡ registrations_of rs i + length (without_initiator rs i)
    → length (r ∷ rs) ≡ registrations_of (r ∷ rs) i + length (cond (not b) (r ∷ without_initiator rs i)
    (without_initiator rs i))
apart r rs i true e h =
    let count = registrations_of-cons r rs i ∙ ap (λ b. cond b 1 0 + registrations_of rs i) e in
    omega (arith, h, count)
apart r rs i false e h =
    let count = registrations_of-cons r rs i ∙ ap (λ b. cond b 1 0 + registrations_of rs i) e in
    omega (arith, h, count)

split : (rs : List Registration) (i : ℕ)
    → length rs ≡ registrations_of rs i + length (without_initiator rs i)
split [] i = refl
split (r ∷ rs) i = apart r rs i (is_of i r) refl (split rs i)

without-below : (n : ℕ) (rs : List Registration) → AreBelow (suc n) rs
    → AreBelow n (without_initiator rs n)
without-below n rs below i h = by-number (n == i) refl
  where
    by-number : (same : Bool) → (n == i) ≡ same → is_registered (without_initiator rs n) i ≡ false
    by-number true e =
        let own : n ≡ i = grind (arith, nat_tests) in
        rw (← own) (is_registered-key_of (without_initiator rs n) n ∙ ap is_some (key_of-unregistered rs n))
    by-number false e =
        not-in-filter (λ r. not (is_of n r)) rs i (below i (grind (arith, nat_tests)))

none-below : (rs : List Registration) → AreBelow zero rs → length rs ≤ zero
none-below [] below = omega arith
none-below (r ∷ rs) below =
    let parts = or_parts (is_of r.initiator r) (is_registered rs r.initiator)
    (below r.initiator (omega arith)) in
    absurd (grind (arith, nat_tests))

pub fits : (n : ℕ) (rs : List Registration) → OneEach rs → AreBelow n rs → length rs ≤ n
fits zero rs one below = none-below rs below
fits (suc n) rs one below =
    let rest = without_initiator rs n in
    let few = fits n rest
    (λ i. omega (arith, one i, registrations_of-filter (λ r. not (is_of n r)) rs i))
    (without-below n rs below) in
    omega (arith, few, split rs n, one n)

-- ---- The initiators that a list names

named-below : (id : List ℕ) (n : ℕ) → initiator_count ≤ n → is_named n (named_by id) ≡ false
unfolding named_by
named-below id n h = grind (arith, nat_tests)

each-below : (bytes : List ℕ) (indices : List ℕ) (n : ℕ) → initiator_count ≤ n
    → list_any (is_named n) (map (λ index. named_by (id_at bytes index)) indices) ≡ false
each-below bytes [] n h = refl
each-below bytes (index ∷ indices) n h =
    or_from _ _ (named-below (id_at bytes index) n h) (each-below bytes indices n h)

ids-below : (bytes : List ℕ) (n : ℕ) → initiator_count ≤ n
    → list_any (is_named n) (named_initiators bytes) ≡ false
ids-below bytes n h = each-below bytes (range_with_len 0 (id_count bytes)) n h

common : (bytes : List ℕ) (n : ℕ) → initiator_count ≤ n
    → list_any (is_named n) (if has_transport_ids bytes then named_initiators (drop transport_ids_at bytes)
    else []) ≡ false
common bytes n h =
    cond_both (has_transport_ids bytes) (named_initiators (drop transport_ids_at bytes)) []
    (λ others. list_any (is_named n) others ≡ false) (λ _. ids-below _ n h) (λ _. refl)

pub others-below : (action : OutAction) (bytes : List ℕ) (n : ℕ) → initiator_count ≤ n
    → list_any (is_named n) (list_of action bytes).others ≡ false
others-below RegisterAndMove bytes n h = ids-below _ n h
others-below Register bytes n h = common bytes n h
others-below Reserve bytes n h = common bytes n h
others-below Release bytes n h = common bytes n h
others-below Clear bytes n h = common bytes n h
others-below Preempt bytes n h = common bytes n h
others-below PreemptAndAbort bytes n h = common bytes n h
others-below RegisterAndIgnoreExistingKey bytes n h = common bytes n h

-- ---- No outcome is that there is no room

abbrev HasRoom : Outcome → Type 0
HasRoom o = o ≢ Err NoRoom

changes : (change : ReservationChange) → HasRoom (Ok change)
changes change e = cc

conflict : HasRoom (Err Conflict)
conflict e = cc

field : (byte : ℕ) → HasRoom (Err (Field byte))
field byte e = cc

bad-type : HasRoom (Err BadType)
bad-type e = cc

typed : (type : Option ReservationType) (f : ReservationType → Outcome)
    → ((type : ReservationType) → HasRoom (f type)) → HasRoom (with_type type f)
typed None f h = bad-type
typed (Some type) f h = h type

taking : (held : Option Reservation) (i : ℕ) (type : Option ReservationType) (rest : List Registration)
    → HasRoom (preempted held i type rest)
taking held i None rest = bad-type
taking held i (Some type) rest = changes _

module _ (rules : Rules) (state : ReservationState) (i : ℕ)
    (roomy : rules.has_room_for_all_registrations ≡ true) (consistent : IsConsistent state)
    (below : AreBelow initiator_count state.registrations)
    (known : i < initiator_count) where
  abbrev all : List Registration
  all = state.registrations

  -- those of the registrants and of one more
  abbrev IsFull : List Registration → Type 0
  IsFull rs = nat_lt max_registrations (length rs) ≡ true

  not-full : (rs : List Registration) → OneEach rs → AreBelow initiator_count rs → IsFull rs → ⊥
  not-full rs one low full =
      let few = fits initiator_count rs one low in
      absurd (grind (arith, nat_tests))

  by-key : (rest : List Registration) (n : ℕ) → initiator_count ≤ n → key_of rest n ≡ key_of all n
      → is_registered rest n ≡ false
  by-key rest n h e =
      is_registered-key_of rest n
      ∙ (ap is_some e ∙ (sym (is_registered-key_of all n) ∙ below n h))

  another : (j n : ℕ) → j < initiator_count → initiator_count ≤ n → (j == n) ≡ false
  another j n h k = grind (arith, nat_tests)

  pushed-below : (new : Registration) → new.initiator < initiator_count
      → AreBelow initiator_count (with_registration all new)
  pushed-below new low n h =
      by-key (with_registration all new) n h (key_of-push all n new (another new.initiator n low h))

  register-room : (list : OutList) → FirstIs HasRoom (register_cases rules state i list)
  unfolding register_cases
  register-room list =
      let own = registration_by list i in
      case_or HasRoom _ _ (λ _. changes _)
      (λ keyed. case_or HasRoom _ _
      (λ full.
      let parts = and_parts (not (is_registered all i)) _ full in
      let unknown = not-true (is_registered all i) parts.0 in
      let some : nat_le max_registrations (length all) ≡ true =
      sym (ap (λ b. nat_le (if b then max_registrations else 6) (length all)) roomy) ∙ parts.1 in
      let long = length-append all (own ∷ []) in
      absurd (not-full (with_registration all own)
      (nearly-push all state.reservation own unknown (and_false _ _ parts.0 keyed)
      (nearly all state.reservation consistent)).one_each
      (pushed-below own known) (grind (arith, nat_tests, long))))
      (λ _. case_or HasRoom _ _ (λ _. changes _)
      (λ _. case_or HasRoom _ _ (λ _. changes _)
      (λ _. last_case HasRoom _ _ refl (changes _)))))

  module _ (list : OutList)
      (named : (n : ℕ) → initiator_count ≤ n → list_any (is_named n) list.others ≡ false) where
    together-below : AreBelow initiator_count (registered_together all i list)
    together-below n h =
        by-key (registered_together all i list) n h
        (together-other list all n i (another i n known h) (named n h))

    together-one : (list.service_action_key == 0) ≡ false → OneEach (registered_together all i list)
    unfolding registered_together
    together-one keyed =
        (nearly-each state.reservation list (Some i ∷ list.others) all keyed
        (nearly all state.reservation consistent)).one_each

    together-room : FirstIs HasRoom (register_together_cases state i list)
    unfolding register_together_cases
    together-room =
        case_or HasRoom _ _ (λ _. changes _)
        (λ some. case_or HasRoom _ _ (λ _. field _)
        (λ new. case_or HasRoom _ _ (λ _. field _)
        (λ _. case_or HasRoom _ _
        (λ full. absurd (not-full (registered_together all i list)
        (together-one (and_false _ _ (ap not new) some)) together-below full))
        (λ _. last_case HasRoom _ _ refl (changes _)))))

    move-room : FirstIs HasRoom (move_cases state i list)
    unfolding move_cases
    move-room =
        case_or HasRoom _ _ (λ _ e. cc)
        (λ _. case_or HasRoom _ _ (λ _. conflict)
        (λ _. case_or HasRoom _ _ (λ _. field _)
        (λ keyed. case_or HasRoom _ _ (λ _. field _)
        (λ _. case_or HasRoom _ _ (λ _. field _)
        (λ _. case_or HasRoom _ _ (λ _. field _)
        (λ other. case_or HasRoom _ _
        (λ full.
        let target = unwrap_or (moved_to list.others) i in
        absurd (not-full (with_moved all i target list)
        (nearly-moved state i target list keyed consistent).one_each
        (λ n h. moved-unknown all n i target list (below n h)
        (target-other list.others n i (named n h) other))
        full))
        (λ _. last_case HasRoom _ _ refl (changes _))))))))

  reserve-room : (type : ReservationType) → FirstIs HasRoom (reserve_cases state i type)
  unfolding reserve_cases
  reserve-room type =
      case_or HasRoom _ _ (λ _. changes _)
      (λ _. case_or HasRoom _ _ (λ _. changes _) (λ _. last_case HasRoom _ _ refl conflict))

  release-room : (type : ReservationType) → FirstIs HasRoom (release_cases state i type)
  unfolding release_cases
  release-room type =
      case_or HasRoom _ _ (λ _. changes _)
      (λ _. case_or HasRoom _ _ (λ _ e. cc) (λ _. last_case HasRoom _ _ refl (changes _)))

  preempt-room : (type : Option ReservationType) (sark : ℕ)
      → FirstIs HasRoom (preempt_cases rules state i type sark)
  unfolding preempt_cases
  preempt-room type sark =
      case_or HasRoom _ _ (λ _. field _)
      (λ _. case_or HasRoom _ _ (λ _. field _)
      (λ _. case_or HasRoom _ _ (λ _. taking state.reservation i type _)
      (λ _. case_or HasRoom _ _ (λ _. taking state.reservation i type _)
      (λ _. case_or HasRoom _ _ (λ _. conflict)
      (λ _. last_case HasRoom _ _ refl (changes _))))))

  module _ (list : OutList)
      (named : (n : ℕ) → initiator_count ≤ n → list_any (is_named n) list.others ≡ false) where
    action-room : (action : OutAction) (type : Option ReservationType)
        → HasRoom (action_outcome rules state i action type list)
    action-room Register type =
        choice HasRoom list.spec_i_pt _ _ (λ _. (together-room list named).first)
        (λ _. (register-room list).first)
    action-room RegisterAndIgnoreExistingKey type = (register-room list).first
    action-room Reserve type = typed type _ (λ type. (reserve-room type).first)
    action-room Release None = choice HasRoom (is_holder state i) _ _ (λ _ e. cc) (λ _. changes _)
    action-room Release (Some type) = (release-room type).first
    action-room Clear type = changes _
    action-room Preempt type = (preempt-room type list.service_action_key).first
    action-room PreemptAndAbort type = (preempt-room type list.service_action_key).first
    action-room RegisterAndMove type = (move-room list named).first

    pub outcome-room : (action : OutAction) (scope_type : ℕ)
        → HasRoom (outcome rules state i action scope_type list)
    unfolding outcome
    outcome-room action scope_type =
        choice HasRoom (has_unsupported_flag rules action list) _ _ (λ _. field _)
        (λ _. choice HasRoom (not (accepts_key all i action list.reservation_key)) _ _ (λ _. conflict)
        (λ _. action-room action (type_of scope_type)))

-- so no command is refused for that
pub not-refused : (o : Outcome) → o ≢ Err NoRoom → result_map_both (λ change. change) out_refusal o
    ≢ Err (CheckCondition InsufficientRegistrationResources)
not-refused (Ok change) room e = cc
not-refused (Err Conflict) room e = cc
not-refused (Err NoReservation) room e = cc
not-refused (Err NoRoom) room e = room refl
not-refused (Err BadRelease) room e = cc
not-refused (Err (Field byte)) room e = cc
not-refused (Err BadType) room e = cc

-- ---- No command asks to register another number than an initiator's

unasked : (keyed sender ports named : Bool) → sender ≡ false → named ≡ false
    → (keyed && (sender || (ports && named))) ≡ false
unasked true sender true named e f = or_from sender named e f
unasked true sender false named e f = or_from sender false e refl
unasked false sender ports named e f = refl

module _ (rules : Rules) (j n : ℕ) (known : j < initiator_count) (above : initiator_count ≤ n) where
  not-for : (action : OutAction) (bytes : List ℕ) → asks_for rules j n (list_of action bytes) ≡ false
  not-for action bytes =
      let list = list_of action bytes in
      let sender : (j == n) ≡ false = grind (arith, nat_tests) in
      unasked (not (list.service_action_key == 0)) (j == n) (rules.specifies_ports || not list.spec_i_pt)
      (list_any (is_named n) list.others) sender (others-below action bytes n above)

  pub not-asked : (command : Result Command CdbFault) (data_out : List ℕ)
      → asks_to_register rules j n command data_out ≡ false
  not-asked (Ok (PersistentReserveOut c)) data_out =
      cond_both (is_registering c.action)
      (Some (list_of c.action (first_bytes c.list_length data_out))) None
      (λ list. option_map_or (asks_for rules j n) list false ≡ false)
      (λ _. not-for c.action (first_bytes c.list_length data_out)) (λ _. refl)
  not-asked command data_out = refl
