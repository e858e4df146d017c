-- The holder's own commands end alike if its views are equal.
use Rattle.std.proofs.Common.{◌≡◌, ℕ, Bool, true, false, not, ◌||◌, List}
use Rattle.std.proofs.Common.{get_or, Option, Some, None, Ok, Err, refl, sym, ap, ◌∙◌, subst}
use Rattle.std.specs.Prelude.{if◌then◌else◌, is_some}
use Rattle.std.specs.Result.{result_map_both}
use Rattle.std.proofs.lemmas.Bool.{eq-eqb, false≢true}
use Rattle.sg_wire.specs.CdbDecoding.{command_of}
use Rattle.sg_wire.specs.declared.command.out_action.OutAction.{OutAction}
use Rattle.sg_units.specs.Attentions.{Pending, pending_for}
use Rattle.sg_units.specs.Laws.{OneKeyEach}
use Rattle.sg_units.specs.Registrations.{is_registered, key_of}
use Rattle.sg_units.specs.ReserveOut.{Outcome, outcome, raised_by, raised_for, state_after}
use Rattle.sg_units.specs.declared.out_fault.OutFault.TheVariants as out_fault
use Rattle.sg_wire.specs.declared.out_list.OutList.{OutList}
use Rattle.sg_units.specs.declared.registrations.Registration.{Registration}
use Rattle.sg_units.specs.declared.reservation_change.ReservationChange.{ReservationChange}
use Rattle.sg_units.specs.declared.reservation_state.ReservationState.{ReservationState}
use Rattle.sg_wire.specs.declared.command.CdbFault.{CdbFault}
use Rattle.sg_wire.specs.declared.command.Command.{Command}
use Rattle.sg_wire.specs.declared.command.Command.TheVariants.{PersistentReserveOut}
use Rattle.sg_wire.specs.declared.command.out_action.OutAction.{OutAction}
use Rattle.sg_wire.specs.CdbDecoding.{command_in}
use Rattle.sg_fencing.specs.Fencing.{gives_away, is_moving}
use Rattle.sg_fencing.proofs.OperationLemmas.{fits, is_of_kind}
use Rattle.std.specs.Prelude.{not, Result}
use Rattle.std.proofs.lemmas.Bool.{not-true}
use Rattle.sg_target.specs.State.{profile_of}
use Rattle.sg_fencing.proofs.KeyLemmas.{is_registered-key_of}
use Rattle.sg_fencing.proofs.ReserveOutLemmas.{alone_in}
use Rattle.sg_fencing.proofs.OwnReserveOutLemmas.{Left, allows-same, left_of, own_agrees, under-alone}
use Rattle.sg_target.specs.Refusal.{when_sound}
use Rattle.sg_target.specs.ReservationCommands.{changing_reservations, out_refusal}
use Rattle.sg_target.specs.ReservationCommands.{reservation_change}
use Rattle.sg_target.specs.State.{IsWithinLimits, State, config_of, resources_of}
use Rattle.sg_target.specs.Step.{Step, outcome as step_outcome, step, with_alert}
use Rattle.sg_target.specs.Charge.{step_by, step_before_alert}
use Rattle.sg_target.specs.declared.operation.Operation.{Operation}
use Rattle.sg_target.specs.declared.operation.Operation.TheVariants.{ChangeReservations}
use Rattle.sg_target.specs.declared.operation.Operation.TheVariants.{ReturnReservations}
use Rattle.sg_target.proofs.LiftLemmas.{lifted-both}
use Rattle.sg_fencing.specs.Fencing.{View, holds_alone, shows_others, view_of}
use Rattle.sg_fencing.proofs.AlikeLemmas.{StepsAgree, checks-same, operation-agrees, parse-same}
use Rattle.sg_fencing.proofs.AlikeLemmas.{refused-agree, reporting-agree, with_others}
use Rattle.sg_fencing.proofs.AlikeLemmas.{telling, telling-equal}
use Rattle.sg_fencing.proofs.HolderLemmas.{HoldsAlone, alone, raised-none, raised-others, same-view}
use Rattle.sg_fencing.proofs.OperationLemmas.{asked-suits, shows as shows_of}
use Rattle.sg_fencing.specs.Registrants.{rules_for}
use Rattle.sg_pages.specs.Thresholds.{crosses}
use Rattle.sg_pages.specs.ModePage.{ModeState}
use Rattle.sg_pages.specs.Identity.{IdentityFields}
use Rattle.sg_store.specs.Disk.{Disk}
use Rattle.std.specs.FinMap.{len}

-- Two steps end with equal views of i and equal identities, and with equal answers unless the
-- command shows others.
pub record StepsAlike (shows : Bool) (i : ℕ) (first second : Step) : Type 0 where
  pub identity : first.state.identity ≡ second.state.identity
  pub view : view_of first.state i ≡ view_of second.state i
  pub answer : shows ≡ false → first.answer ≡ second.answer

-- ---- PERSISTENT RESERVE OUT

abbrev view_with : State → (initiator : ℕ) → Left → View
view_with state i left = record {
  disk = state.disk;
  modes = state.modes;
  attentions = pending_for state.attentions i;
  key = left.0;
  reservation = left.1;
  stopped = state.stopped;
}

-- a state after the command
record Becomes (state : State) (i : ℕ) (left : Left) (after : State) : Type 0 where
  identity : after.identity ≡ state.identity
  view : view_of after i ≡ view_with state i left

module _ (state : State) (i : ℕ) (w : IsWithinLimits state) where
  abbrev rs : List Registration
  rs = state.reservations.registrations

  none-raised : (change : ReservationChange) → get_or (raised_by rs i change) i None ≡ None
  unfolding raised_by
  none-raised change =
      let for_caller : raised_for rs i change i ≡ None =
      ap
      (λ (b : Bool).
      if b || not (is_registered rs i) then None
      else (if is_registered change.registrations i then change.for_remaining else change.for_removed))
      (eq-eqb i i refl) in
      raised-none (raised_for rs i change) i for_caller

  changed : (change : ReservationChange)
      → Becomes state i (left_of (state_after state.reservations (Ok change)) i)
      (changing_reservations state i change).after
  changed change =
      let attentions =
      raised-others state.attentions (raised_by rs i change) i w.pending.one_for_each
      (none-raised change) in
      record {
        identity = refl;
        view =
            λ d. record {
              disk = state.disk;
              modes = state.modes;
              attentions = attentions d;
              key = key_of change.registrations i;
              reservation = change.reservation;
              stopped = state.stopped;
            };
      }

  becomes : (o : Outcome)
      → Becomes state i (left_of (state_after state.reservations o) i)
      (step_outcome state i (when_sound (result_map_both (λ change. change) out_refusal o)
      (changing_reservations state i))).state
  becomes (Err out_fault.Conflict) = record { identity = refl; view = refl }
  becomes (Err out_fault.NoRoom) = record { identity = refl; view = refl }
  becomes (Err out_fault.NoReservation) = record { identity = refl; view = refl }
  becomes (Err out_fault.BadRelease) = record { identity = refl; view = refl }
  becomes (Err (out_fault.Field byte)) = record { identity = refl; view = refl }
  becomes (Err out_fault.BadType) = record { identity = refl; view = refl }
  becomes (Ok change) = changed change

  out-becomes : (action : OutAction) (scope_type : ℕ) (list : OutList)
      → Becomes state i
      (left_of (state_after state.reservations
      (outcome (rules_for state) state.reservations i action scope_type list)) i)
      (step_before_alert state i (ChangeReservations action scope_type list)).state
  unfolding reservation_change
  out-becomes action scope_type list =
      becomes (outcome (rules_for state) state.reservations i action scope_type list)

record HasKey (all : List Registration) (i : ℕ) : Type 0 where
  key : ℕ
  key_is : key_of all i ≡ Some key

has-key : (all : List Registration) (i : ℕ) (o : Option ℕ) → key_of all i ≡ o → is_some o ≡ true
    → HasKey all i
has-key all i None e h = absurd (false≢true h)
has-key all i (Some key) e h = record { key = key; key_is = e }

-- ---- All commands

module _ (one : OneKeyEach) (s : State) (a : Pending) (r : ReservationState) (i : ℕ)
    (attentions : pending_for s.attentions i ≡ pending_for a i)
    (key : key_of s.reservations.registrations i ≡ key_of r.registrations i)
    (reservation : s.reservations.reservation ≡ r.reservation)
    (w : IsWithinLimits s) (w' : IsWithinLimits (with_others s a r))
    (h : HoldsAlone s.reservations i) where
  abbrev other : State
  other = with_others s a r

  own-left : (action : OutAction) (scope_type : ℕ) (list : OutList) → is_moving action ≡ false
      → left_of (state_after s.reservations
      (outcome (rules_for s) s.reservations i action scope_type list)) i
      ≡ left_of (state_after r (outcome (rules_for s) r i action scope_type list)) i
  own-left action scope_type list keeps =
      let rs = s.reservations.registrations in
      let k = has-key rs i (key_of rs i) refl (sym (is_registered-key_of rs i) ∙ h.registered) in
      let first : s.reservations ≡ alone_in rs h.kind i s.reservations =
      λ d. record s.reservations { reservation = h.reservation_is d } in
      let key' = sym key ∙ k.key_is in
      let held' = sym reservation ∙ h.reservation_is in
      let second : r ≡ alone_in r.registrations h.kind i r =
      λ d. record r { reservation = held' d } in
      let left = λ (x : ReservationState).
      left_of (state_after x (outcome (rules_for s) x i action scope_type list)) i in
      ap left first
      ∙ (own_agrees (rules_for s) rs r.registrations h.kind s.reservations r i k.key action scope_type list
      keeps (under-alone one s.reservations i k.key w.registered k.key_is) k.key_is
      (under-alone one r i k.key w'.registered key') key'
      ∙ sym (ap left second))

  out-alike : (action : OutAction) (scope_type : ℕ) (list : OutList) → is_moving action ≡ false
      → StepsAlike true i (step_before_alert s i (ChangeReservations action scope_type list))
      (step_before_alert other i (ChangeReservations action scope_type list))
  out-alike action scope_type list keeps =
      let first = out-becomes s i w action scope_type list in
      let second = out-becomes other i w' action scope_type list in
      let left = own-left action scope_type list keeps in
      let middle : view_with s i (left_of (state_after s.reservations
      (outcome (rules_for s) s.reservations i action scope_type list)) i)
      ≡ view_with other i
      (left_of (state_after r (outcome (rules_for s) r i action scope_type list)) i) =
      λ d. record {
        disk = s.disk;
        modes = s.modes;
        attentions = attentions d;
        key = (left d).0;
        reservation = (left d).1;
        stopped = s.stopped;
      } in
      record {
        identity = first.identity ∙ sym second.identity;
        view = first.view ∙ (middle ∙ sym second.view);
        answer = λ shown. cc;
      }

  -- what is related of the reservations: the key of i, and the reservation
  abbrev SeenAlike : ReservationState → ReservationState → Type 0
  SeenAlike x y = (key_of x.registrations i ≡ key_of y.registrations i) × (x.reservation ≡ y.reservation)

  alike : (shown : Bool) (first second : Step)
      → StepsAgree SeenAlike shown s.attentions a first second → StepsAlike shown i first second
  alike shown first second agree = record {
    identity = ap (λ (x : State). x.identity) agree.rest;
    view =
        same-view first.state second.state i (ap (λ (x : State). x.disk) agree.rest)
        (ap (λ (x : State). x.modes) agree.rest) (agree.queues i attentions) agree.reservations.0
        agree.reservations.1 (ap (λ (x : State). x.stopped) agree.rest);
    answer = agree.answer;
  }

  -- it does not give the reservation away
  abbrev keeps_it : OutAction → Bool
  keeps_it action = not (is_moving action)

  by-operation : (operation : Operation) → fits keeps_it operation ≡ true
      → StepsAlike (shows_of operation) i (step_before_alert s i operation)
      (step_before_alert other i operation)
  by-operation (ChangeReservations action scope_type list) keeps =
      out-alike action scope_type list (not-true (is_moving action) keeps)
  by-operation (ReturnReservations action n) keeps =
      alike true _ _ (reporting-agree SeenAlike s a r i attentions (key, reservation) true action n
      (λ shown. cc))
  by-operation operation keeps =
      alike false _ _ (operation-agrees SeenAlike s a r i attentions (key, reservation) operation refl)

  of-kind : (parsed : Result Command CdbFault) → gives_away parsed ≡ false
      → is_of_kind keeps_it parsed ≡ true
  of-kind (Ok (PersistentReserveOut c)) keeps = ap not keeps
  of-kind (Ok _) keeps = refl
  of-kind (Err fault) keeps = refl

  -- two steps that end alike tell of a threshold alike
  told-alike : (shown : Bool) (first second : Step) → StepsAlike shown i first second
      → StepsAlike shown i (with_alert s i first) (with_alert other i second)
  told-alike shown first second h =
      let disk = ap (λ (v : View). v.disk) h.view in
      let modes = ap (λ (v : View). v.modes) h.view in
      let tells = λ (identity : IdentityFields) (modes : ModeState) (disk : Disk).
      crosses identity.profile modes.current (resources_of s)
      (record { capacity = disk.capacity; blocks = disk.pool; used = len disk.contents }) in
      let same : tells first.state.identity first.state.modes first.state.disk
      ≡ tells second.state.identity second.state.modes second.state.disk =
      λ d. tells (h.identity d) (modes d) (disk d) in
      let after = second.state in
      record {
        identity = h.identity;
        view =
            same-view (with_alert s i first).state (with_alert other i second).state i disk modes
            ((λ d. pending_for (telling (same d) (modes d).current i first.state.attentions) i)
            ∙ telling-equal (tells after.identity after.modes after.disk) after.modes.current i
            first.state.attentions after.attentions i (ap (λ (v : View). v.attentions) h.view))
            (ap (λ (v : View). v.key) h.view) (ap (λ (v : View). v.reservation) h.view)
            (ap (λ (v : View). v.stopped) h.view);
        answer = h.answer;
      }

  step-alike : (cdb data_out : List ℕ) → gives_away (command_in (profile_of s) cdb) ≡ false
      → StepsAlike (shows_others (command_of cdb)) i (step s i cdb data_out)
      (step other i cdb data_out)
  step-alike cdb data_out keeps =
      let shown = shows_others (command_of cdb) in
      let related : SeenAlike s.reservations r = (key, reservation) in
      lifted-both s other i cdb data_out refl
      (checks-same SeenAlike s a r i attentions related
      (λ class. allows-same s.reservations r i class key reservation) cdb)
      (parse-same SeenAlike s a r i attentions related data_out)
      (λ (first second : Step). StepsAlike shown i first second)
      (λ refusal. alike shown _ _ (refused-agree SeenAlike s a r i attentions related shown refusal))
      (λ operation k. subst
      (λ (b : Bool). StepsAlike b i (step_by s i operation) (step_by other i operation))
      (sym (ap shows_others k.command_is
      ∙ (asked-suits (config_of s) k.command data_out operation k.operation_is).shown))
      (told-alike (shows_of operation) (step_before_alert s i operation) (step_before_alert other i operation)
      (by-operation operation
      ((asked-suits (config_of s) k.command data_out operation k.operation_is).of_kind keeps_it
      (sym (ap (is_of_kind keeps_it) k.read_as) ∙ of-kind (command_in (profile_of s) cdb) keeps)))))

-- a command of the holder in two states of one disk with equal views
pub own-alike : OneKeyEach → (first second : State) (i : ℕ) (cdb data_out : List ℕ)
    → IsWithinLimits first → IsWithinLimits second → first.identity ≡ second.identity
    → view_of first i ≡ view_of second i → holds_alone first i ≡ true
    → gives_away (command_in (profile_of first) cdb) ≡ false
    → StepsAlike (shows_others (command_of cdb)) i (step first i cdb data_out)
    (step second i cdb data_out)
own-alike one first second i cdb data_out w w' identity view held keeps =
    let a = second.attentions in
    let r = second.reservations in
    let disk = ap (λ (v : View). v.disk) view in
    let modes = ap (λ (v : View). v.modes) view in
    let stopped = ap (λ (v : View). v.stopped) view in
    let to : with_others first a r ≡ second =
    λ d. record {
      identity = identity d;
      disk = disk d;
      modes = modes d;
      attentions = a;
      reservations = r;
      stopped = stopped d;
    } in
    subst
    (λ (x : State). StepsAlike (shows_others (command_of cdb)) i (step first i cdb data_out)
    (step x i cdb data_out))
    to
    (step-alike one first a r i (ap (λ (v : View). v.attentions) view) (ap (λ (v : View). v.key) view)
    (ap (λ (v : View). v.reservation) view) w
    (subst IsWithinLimits (sym to) w') (alone first i w held) cdb data_out keeps)
