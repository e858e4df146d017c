-- A command ends alike in two states that are the same except for unit attentions of other
-- initiators, registrations and reservation. The registrations and reservations of both are related
-- in some way.
use Rattle.std.proofs.Common.{◌≡◌, ◌<◌, ◌≤◌, ◌⊎◌, inl, inr, ℕ, Bool, true, false, cond, List, [], ◌∷◌}
use Rattle.std.proofs.Common.{get_or, drop, length, Option, Some, None, Result, Ok, Err, refl, sym}
use Rattle.std.proofs.Common.{ap, ◌∙◌}
use Rattle.std.proofs.Common.{subst, arith}
use Rattle.std.specs.Prelude.{map, option_and_then, slice_get, if◌then◌else◌}
use Rattle.std.specs.List.{range_with_len}
use Rattle.std.specs.Option.{option_map, option_map_or}
use Rattle.std.proofs.lemmas.Bool.{cases_eq, cases_lt}
use Rattle.std.proofs.lemmas.List.{get_or_past, get_or-set_other, get_or-set_same, length-set}
use Rattle.std.proofs.lemmas.List.FromFn.{get_or-map-range_with_len, length-map-range_with_len}
use Rattle.sg_wire.specs.CdbDecoding.{class_in, command_in, is_blocked_in}
use Rattle.sg_wire.specs.SenseData.{sense_data}
use Rattle.sg_wire.specs.declared.command.CdbFault.{CdbFault}
use Rattle.sg_wire.specs.declared.command.Class.{Class}
use Rattle.sg_wire.specs.declared.command.Command.{Command}
use Rattle.sg_wire.specs.declared.command.in_action.InAction.{InAction}
use Rattle.sg_wire.specs.declared.sense.Format.{Format}
use Rattle.sg_pages.specs.ModePage.{ModeState}
use Rattle.sg_pages.specs.ModeSelect.{changed_by}
use Rattle.sg_units.specs.Access.{allows}
use Rattle.sg_wire.specs.Initiator.{initiator_count}
use Rattle.sg_units.specs.Attentions.{Pending, pending_for, raised, with_condition, with_optional}
use Rattle.sg_units.specs.Attentions.{remaining, without_condition, without_oldest}
use Rattle.sg_units.specs.Raised.{Conditions, queue_after, raised_for_each, raised_for_others}
use Rattle.sg_units.specs.Raised.{raised_for_members}
use Rattle.sg_units.specs.declared.reservation_state.ReservationState.{ReservationState}
use Rattle.sg_units.specs.declared.unit_attention.UnitAttention.{UnitAttention}
use Rattle.sg_units.specs.declared.unit_attention.UnitAttention.TheVariants.{ModeParametersChanged}
use Rattle.sg_units.specs.declared.unit_attention.UnitAttention.TheVariants.{SoftThresholdReached}
use Rattle.sg_units.specs.declared.unit_attention.UnitAttention.TheVariants.{ReportedLunsDataChanged}
use Rattle.sg_target.specs.BlockCommands.{comparing, comparing_each, copying, exchanging, or_writing, reading}
use Rattle.sg_target.specs.BlockCommands.{writing}
use Rattle.sg_target.specs.Checks.{attention_refusal, bad_field, blocking_attention, cdb_checks}
use Rattle.sg_target.specs.Checks.{checked_parse, empty_cdb, if_it_outranks}
use Rattle.sg_target.specs.Checks.{reservation_conflict, short_cdb}
use Rattle.sg_target.specs.Checks.{unknown_opcode}
use Rattle.sg_pages.specs.CapacityData.{capacity_10, capacity_16}
use Rattle.sg_target.specs.Demands.{extent}
use Rattle.sg_target.specs.Effect.{Effect, no_effect, returning, returning_up_to}
use Rattle.sg_target.specs.ModeCommands.{attentions_after, changing_modes, mode_parameters}
use Rattle.sg_target.specs.ModeCommands.{selected_modes}
use Rattle.sg_pages.specs.Reports.{report_data}
use Rattle.sg_target.specs.PrimaryCommands.{returning_luns, returning_page, returning_sense}
use Rattle.sg_target.specs.ProvisioningCommands.{anchoring, filling, reporting_status, unmapping}
use Rattle.sg_target.specs.Refusal.{first_some, pending_sense, when_sound}
use Rattle.sg_target.specs.ReservationCommands.{reporting}
use Rattle.sg_target.specs.StartStop.{starting_or_stopping}
use Rattle.sg_target.specs.State.{State, profile_of, resources_of}
use Rattle.sg_target.specs.Step.{Step, cut, executed, good, outcome, refused, with_alert}
use Rattle.sg_target.specs.Charge.{step_before_alert}
use Rattle.sg_target.specs.declared.operation.Operation.{Operation}
use Rattle.sg_target.specs.declared.operation.Operation.TheVariants.{Compare, CompareAndWrite, Copy, OrWrite}
use Rattle.sg_target.specs.declared.operation.Operation.TheVariants.{CompareEach, Verify}
use Rattle.sg_target.specs.declared.operation.Operation.TheVariants.{Nothing, ReturnSense}
use Rattle.sg_target.specs.declared.operation.Operation.TheVariants.{TestReady, StartStop}
use Rattle.sg_target.specs.declared.operation.Operation.TheVariants.{ReturnInquiry, ReturnModes}
use Rattle.sg_target.specs.declared.operation.Operation.TheVariants.{ChangeModes, ReturnCapacity10}
use Rattle.sg_target.specs.declared.operation.Operation.TheVariants.{ReturnCapacity16, Read, Write}
use Rattle.sg_target.specs.declared.operation.Operation.TheVariants.{Synchronize, Fill, Unmap}
use Rattle.sg_target.specs.declared.operation.Operation.TheVariants.{MarkBad, PreFetch}
use Rattle.sg_target.specs.declared.operation.Operation.TheVariants.{ReturnLuns, ReturnReport}
use Rattle.sg_target.specs.declared.operation.Operation.TheVariants.{Anchor, AnchorExtent}
use Rattle.sg_target.specs.declared.operation.Operation.TheVariants.{UnmapAll, UnmapExtent, ReturnLbaStatus}
use Rattle.sg_target.specs.declared.operation.Operation.TheVariants.{ReturnReservations}
use Rattle.sg_target.specs.declared.operation.Operation.TheVariants.{ChangeReservations}
use Rattle.sg_target.specs.declared.refusal.Reason.TheVariants.{UnitAttention as Attention}
use Rattle.sg_target.specs.declared.refusal.Refusal.{Refusal}
use Rattle.sg_target.specs.declared.refusal.Refusal.TheVariants.{Conflict, CheckCondition}
use Rattle.sg_fencing.proofs.HolderLemmas.{cleared, cleared-other, without, without-other}
use Rattle.sg_fencing.proofs.OperationLemmas.{shows}
use Rattle.sg_target.specs.Alerts.{alerted_initiators, has_crossed}
use Rattle.sg_pages.specs.declared.mode_pages.mode_page.PageValues.{PageValues}

-- ---- Queues

-- an initiator whose queue is the same in two tables has the same queue in the tables that these
-- become
abbrev pub StayEqual : (p q p' q' : Pending) → Type 0
StayEqual p q p' q' =
    (k : ℕ) → pending_for p k ≡ pending_for q k → pending_for p' k ≡ pending_for q' k

cleared-equal : (p q : Pending) (i : ℕ) → StayEqual p q (without_oldest p i) (without_oldest q i)
cleared-equal p q i k e = by-case (cases_eq i k)
  where
    by-case : (i ≡ k) ⊎ (i ≡ k → ⊥)
        → pending_for (without_oldest p i) k ≡ pending_for (without_oldest q i) k
    by-case (inl own) =
        subst (λ j. pending_for (without_oldest p j) k ≡ pending_for (without_oldest q j) k) (sym own)
        (cleared p k ∙ (ap (drop 1) e ∙ sym (cleared q k)))
    by-case (inr other) = cleared-other p k i other ∙ (e ∙ sym (cleared-other q k i other))

without-equal : (p q : Pending) (i : ℕ) (condition : UnitAttention)
    → StayEqual p q (without_condition p i condition) (without_condition q i condition)
without-equal p q i condition k e = by-case (cases_eq i k)
  where
    by-case : (i ≡ k) ⊎ (i ≡ k → ⊥)
        → pending_for (without_condition p i condition) k
        ≡ pending_for (without_condition q i condition) k
    by-case (inl own) =
        subst
        (λ j. pending_for (without_condition p j condition) k
        ≡ pending_for (without_condition q j condition) k)
        (sym own)
        (without p k condition ∙ (ap (remaining condition) e ∙ sym (without q k condition)))
    by-case (inr other) =
        without-other p k i other condition ∙ (e ∙ sym (without-other q k i other condition))

pub raised-equal : (p q : Pending) (conditions : Conditions)
    → StayEqual p q (raised_for_each p conditions) (raised_for_each q conditions)
unfolding raised_for_each
raised-equal p q conditions k e = by-case (cases_lt k initiator_count)
  where
    by-case : (k < initiator_count) ⊎ (initiator_count ≤ k)
        → get_or (map (queue_after p conditions) (range_with_len 0 initiator_count)) k []
        ≡ get_or (map (queue_after q conditions) (range_with_len 0 initiator_count)) k []
    by-case (inl less) =
        get_or-map-range_with_len (queue_after p conditions) 0 initiator_count k k [] less (omega arith)
        ∙ (ap (λ (queue : List UnitAttention). with_optional queue (get_or conditions k None)) e
        ∙ sym (get_or-map-range_with_len (queue_after q conditions) 0 initiator_count k k [] less
        (omega arith)))
    by-case (inr past) =
        let first = length-map-range_with_len (queue_after p conditions) 0 initiator_count in
        let second = length-map-range_with_len (queue_after q conditions) 0 initiator_count in
        get_or_past (map (queue_after p conditions) (range_with_len 0 initiator_count)) k [] (omega arith)
        ∙ sym (get_or_past (map (queue_after q conditions) (range_with_len 0 initiator_count)) k []
        (omega arith))

pub raised_one-equal : (p q : Pending) (j : ℕ) (condition : UnitAttention) (k : ℕ)
    → length p ≡ initiator_count → length q ≡ initiator_count
    → pending_for p k ≡ pending_for q k
    → pending_for (raised p j condition) k ≡ pending_for (raised q j condition) k
raised_one-equal p q j condition k l m e = by-case (cases_eq j k) (cases_lt k initiator_count)
  where
    new : Pending → List UnitAttention
    new pending = with_condition (pending_for pending j) condition

    by-case : (j ≡ k) ⊎ (j ≡ k → ⊥) → (k < initiator_count) ⊎ (initiator_count ≤ k)
        → pending_for (raised p j condition) k ≡ pending_for (raised q j condition) k
    by-case (inl own) (inl less) =
        subst (λ n. pending_for (raised p n condition) k ≡ pending_for (raised q n condition) k)
        (sym own)
        (get_or-set_same p k (with_condition (pending_for p k) condition) [] (omega arith)
        ∙ (ap (λ queue. with_condition queue condition) e
        ∙ sym (get_or-set_same q k (with_condition (pending_for q k) condition) [] (omega arith))))
    by-case (inl own) (inr past) =
        get_or_past (raised p j condition) k [] (omega (arith, length-set p j (new p)))
        ∙ sym (get_or_past (raised q j condition) k [] (omega (arith, length-set q j (new q))))
    by-case (inr other) last =
        get_or-set_other p j k (new p) [] (λ same. other (sym same))
        ∙ (e ∙ sym (get_or-set_other q j k (new q) [] (λ same. other (sym same))))

-- the same after a threshold has been told, or has not
abbrev pub telling : (tells : Bool) → PageValues → (i : ℕ) → Pending → Pending
telling tells values i p =
    if tells
    then raised_for_each p (raised_for_members (alerted_initiators values i) SoftThresholdReached)
    else p

pub telling-equal : (tells : Bool) (values : PageValues) (i : ℕ) (p q : Pending)
    → StayEqual p q (telling tells values i p) (telling tells values i q)
telling-equal true values i p q =
    raised-equal p q (raised_for_members (alerted_initiators values i) SoftThresholdReached)
telling-equal false values i p q = λ k e. e

-- ---- Words

-- Two states of one disk, with the same blocks and mode pages: the second has other unit
-- attentions, registrations and reservation.
abbrev pub with_others : State → Pending → ReservationState → State
with_others state attentions reservations =
    record state { attentions = attentions; reservations = reservations }

module _ (Related : ReservationState → ReservationState → Type 0) (shows_others : Bool) (p q : Pending) where
  -- Two steps end in such states, whose reservations are related, and with equal answers unless the
  -- command shows others.
  pub record StepsAgree (first second : Step) : Type 0 where
    pub rest : with_others first.state second.state.attentions second.state.reservations
        ≡ second.state
    pub queues : StayEqual p q first.state.attentions second.state.attentions
    pub reservations : Related first.state.reservations second.state.reservations
    pub answer : shows_others ≡ false → first.answer ≡ second.answer

  -- The same for two effects.
  pub record EffectsAgree (first second : Effect) : Type 0 where
    pub rest : with_others first.after second.after.attentions second.after.reservations ≡ second.after
    pub queues : StayEqual p q first.after.attentions second.after.attentions
    pub reservations : Related first.after.reservations second.after.reservations
    pub answer : shows_others ≡ false → (executed first).answer ≡ (executed second).answer
    pub found : first.found ≡ second.found

-- ---- The operations of i, in a state and in one that is the same for i

module _ (Related : ReservationState → ReservationState → Type 0) (s : State) (q : Pending)
    (r : ReservationState) (i : ℕ) (own : pending_for s.attentions i ≡ pending_for q i)
    (related : Related s.reservations r) where
  abbrev p : Pending
  p = s.attentions

  abbrev t : State
  t = with_others s q r

  abbrev Steps : Bool → Step → Step → Type 0
  Steps shown first second = StepsAgree Related shown p q first second

  abbrev Effects : Bool → Effect → Effect → Type 0
  Effects shown first second = EffectsAgree Related shown p q first second

  pub refused-agree : (shown : Bool) (refusal : Refusal)
      → Steps shown (refused s i refusal) (refused t i refusal)
  refused-agree shown (CheckCondition (Attention condition)) =
      record { rest = refl; queues = cleared-equal p q i; reservations = related; answer = λ _. refl }
  refused-agree shown _ =
      record { rest = refl; queues = λ k e. e; reservations = related; answer = λ _. refl }

  -- two steps that agree tell of a threshold alike
  pub told-agree : (shown : Bool) (first second : Step) → Steps shown first second
      → Steps shown (with_alert s i first) (with_alert t i second)
  told-agree shown first second h =
      let tells = λ (x : State). has_crossed (resources_of s) x in
      let same : tells first.state ≡ tells second.state = ap tells h.rest in
      let values : first.state.modes.current ≡ second.state.modes.current =
      ap (λ (x : State). x.modes.current) h.rest in
      let after = (with_alert t i second).state.attentions in
      record {
        rest = ap (λ (x : State). record x { attentions = after }) h.rest;
        queues =
            λ k e.
            (λ d. pending_for (telling (same d) (values d) i first.state.attentions) k)
            ∙ telling-equal (tells second.state) second.state.modes.current i first.state.attentions
            second.state.attentions k (h.queues k e);
        reservations = h.reservations;
        answer = h.answer;
      }

  by-found : (shown : Bool) (first second : Effect) (found : Option Refusal)
      → Effects shown first second
      → Steps shown (option_map_or (refused s i) found (executed first))
      (option_map_or (refused t i) found (executed second))
  by-found shown first second None h = record {
    rest = h.rest;
    queues = h.queues;
    reservations = h.reservations;
    answer = h.answer;
  }
  by-found shown first second (Some refusal) h = refused-agree shown refusal

  effect-agree : (shown : Bool) (first second : Effect) → Effects shown first second
      → Steps shown (outcome s i (Ok first)) (outcome t i (Ok second))
  effect-agree shown first second h =
      subst
      (λ (found : Option Refusal). Steps shown (outcome s i (Ok first))
      (option_map_or (refused t i) found (executed second)))
      h.found (by-found shown first second first.found h)

  pub sound-agree : {A : Type 0} (sound : Result A Refusal) (first second : A → Effect)
      → ((value : A) → Effects false (first value) (second value))
      → Steps false (outcome s i (when_sound sound first)) (outcome t i (when_sound sound second))
  sound-agree (Ok value) first second h = effect-agree false (first value) (second value) (h value)
  sound-agree (Err refusal) first second h = refused-agree false refusal

  -- effects that leave the unit attentions and the reservations
  plain : (shown : Bool) (first second : Effect)
      → (shown ≡ false → (executed first).answer ≡ (executed second).answer)
      → first.found ≡ second.found → with_others first.after q r ≡ second.after → first.after.attentions ≡ p
      → first.after.reservations ≡ s.reservations → Effects shown first second
  plain shown first second answer found rest same kept =
      let attentions : second.after.attentions ≡ q = sym (ap (λ (x : State). x.attentions) rest) in
      let reservations : second.after.reservations ≡ r = sym (ap (λ (x : State). x.reservations) rest) in
      record {
        rest = (λ d. with_others first.after (attentions d) (reservations d)) ∙ rest;
        queues =
            λ k e. ap (λ (a : Pending). pending_for a k) same
            ∙ (e ∙ sym (ap (λ (a : Pending). pending_for a k) attentions));
        reservations =
            subst (Related first.after.reservations) (sym reservations)
            (subst (λ (x : ReservationState). Related x r) (sym kept) related);
        answer = answer;
        found = found;
      }

  leaving : (first second : Effect) → (executed first).answer ≡ (executed second).answer
      → first.found ≡ second.found → with_others first.after q r ≡ second.after → first.after.attentions ≡ p
      → first.after.reservations ≡ s.reservations
      → Steps false (outcome s i (Ok first)) (outcome t i (Ok second))
  leaving first second answer found rest same kept =
      effect-agree false first second (plain false first second (λ _. answer) found rest same kept)

  sense-agree : (format : Format) (n : ℕ)
      → Effects false (returning_sense s i format n) (returning_sense t i format n)
  sense-agree format n = record {
    rest = refl;
    queues = cleared-equal p q i;
    reservations = related;
    answer =
        λ _. ap
        (λ (queue : List UnitAttention). good (cut (Some n)
        (sense_data format (pending_sense s.stopped (slice_get queue 0))))) own;
    found = refl;
  }

  raised-if : (changed : Bool)
      → StayEqual p q (attentions_after p i changed) (attentions_after q i changed)
  raised-if true = raised-equal p q (raised_for_others i ModeParametersChanged)
  raised-if false = λ k e. e

  modes-agree : (modes : ModeState)
      → Effects false (changing_modes s i modes) (changing_modes t i modes)
  modes-agree modes = record {
    rest = refl;
    queues = raised-if (changed_by s.modes modes).0;
    reservations = related;
    answer = λ _. refl;
    found = refl;
  }

  -- PERSISTENT RESERVE IN, whose answers differ if the reservations do
  pub reporting-agree : (shown : Bool) (action : InAction) (n : ℕ)
      → (shown ≡ false → (executed (reporting s action n)).answer ≡ (executed (reporting t action n)).answer)
      → Steps shown (step_before_alert s i (ReturnReservations action n))
      (step_before_alert t i (ReturnReservations action n))
  reporting-agree shown action n answer =
      effect-agree shown (reporting s action n) (reporting t action n)
      (plain shown (reporting s action n) (reporting t action n) answer refl refl refl refl)

  pub operation-agrees : (operation : Operation) → shows operation ≡ false
      → Steps false (step_before_alert s i operation) (step_before_alert t i operation)
  unfolding selected_modes
  operation-agrees TestReady c = leaving (no_effect s) (no_effect t) refl refl refl refl refl
  operation-agrees (StartStop start) c =
      leaving (starting_or_stopping s start) (starting_or_stopping t start) refl refl refl refl refl
  operation-agrees Nothing c = leaving (no_effect s) (no_effect t) refl refl refl refl refl
  operation-agrees (ReturnSense format n) c =
      effect-agree false (returning_sense s i format n) (returning_sense t i format n) (sense-agree format n)
  operation-agrees (ReturnInquiry page n) c =
      leaving (returning_page s page n) (returning_page t page n) refl refl refl refl refl
  operation-agrees (ReturnLuns listed n) c =
      effect-agree false (returning_luns s i listed n) (returning_luns t i listed n) (record {
        rest = refl;
        queues = without-equal p q i ReportedLunsDataChanged;
        reservations = related;
        answer = λ _. refl;
        found = refl;
      })
  operation-agrees (ReturnReport report n) c =
      leaving (returning_up_to s n (report_data (profile_of s) (resources_of s) report))
      (returning_up_to t n (report_data (profile_of t) (resources_of t) report)) refl refl refl refl refl
  operation-agrees (ReturnModes request n) c =
      sound-agree (mode_parameters s.modes request) (returning_up_to s n) (returning_up_to t n)
      (λ list. plain false (returning_up_to s n list) (returning_up_to t n list) (λ _. refl) refl refl
      refl refl)
  operation-agrees (ChangeModes width sp list) c =
      sound-agree (selected_modes s width sp list) (changing_modes s i) (changing_modes t i) modes-agree
  operation-agrees ReturnCapacity10 c =
      leaving (returning s (capacity_10 s.disk.capacity))
      (returning t (capacity_10 t.disk.capacity)) refl refl refl refl refl
  operation-agrees (ReturnCapacity16 n) c =
      leaving (returning_up_to s n (capacity_16 s.disk.capacity s.identity.physical_block))
      (returning_up_to t n (capacity_16 t.disk.capacity t.identity.physical_block)) refl refl refl refl refl
  operation-agrees (Read extent) c = leaving (reading s extent) (reading t extent) refl refl refl refl refl
  operation-agrees (Write out) c = leaving (writing s out) (writing t out) refl refl refl refl refl
  operation-agrees (Verify extent) c = leaving (no_effect s) (no_effect t) refl refl refl refl refl
  operation-agrees (Compare out) c = leaving (comparing s out) (comparing t out) refl refl refl refl refl
  operation-agrees (CompareEach extent block) c =
      leaving (comparing_each s extent block) (comparing_each t extent block) refl refl refl refl refl
  operation-agrees (CompareAndWrite exchange) c =
      leaving (exchanging s exchange) (exchanging t exchange) refl refl refl refl refl
  operation-agrees (OrWrite out) c = leaving (or_writing s out) (or_writing t out) refl refl refl refl refl
  operation-agrees (Copy segment) c =
      leaving (copying s segment) (copying t segment) refl refl refl refl refl
  operation-agrees (PreFetch extent) c = leaving (no_effect s) (no_effect t) refl refl refl refl refl
  operation-agrees (Synchronize extent) c = leaving (no_effect s) (no_effect t) refl refl refl refl refl
  operation-agrees (MarkBad lba cor_dis) c = leaving (no_effect s) (no_effect t) refl refl refl refl refl
  operation-agrees (Fill extent block) c =
      leaving (filling s extent block) (filling t extent block) refl refl refl refl refl
  operation-agrees (Unmap extents) c =
      leaving (unmapping s extents) (unmapping t extents) refl refl refl refl refl
  operation-agrees (UnmapExtent extent) c =
      leaving (unmapping s (extent ∷ [])) (unmapping t (extent ∷ [])) refl refl refl refl refl
  operation-agrees (UnmapAll blocks) c =
      leaving (unmapping s (extent 0 blocks ∷ [])) (unmapping t (extent 0 blocks ∷ [])) refl refl refl
      refl refl
  operation-agrees (Anchor extents) c =
      leaving (anchoring s extents) (anchoring t extents) refl refl refl refl refl
  operation-agrees (AnchorExtent extent) c =
      leaving (anchoring s (extent ∷ [])) (anchoring t (extent ∷ [])) refl refl refl refl refl
  operation-agrees (ReturnLbaStatus start n) c =
      leaving (reporting_status s start n) (reporting_status t start n) refl refl refl refl refl
  operation-agrees (ReturnReservations action n) c = cc
  operation-agrees (ChangeReservations action scope_type list) c = cc

  -- ---- The checks of a CDB

  module _ (allowed : (class : Class) → allows s.reservations i class ≡ allows r i class) where
    conflict-same : (class : Option Class)
        → option_and_then
        (λ class. if allows s.reservations i class then None else Some Conflict) class
        ≡ option_and_then (λ class. if allows r i class then None else Some Conflict) class
    conflict-same None = refl
    conflict-same (Some class) =
        ap (λ (b : Bool). cond {A = Option Refusal} b None (Some Conflict)) (allowed class)

    pub checks-same : (cdb : List ℕ)
        → first_some (cdb_checks s i cdb) ≡ first_some (cdb_checks t i cdb)
    checks-same cdb =
        let command = command_in (profile_of s) cdb in
        let blocking : blocking_attention s i cdb ≡ blocking_attention t i cdb =
        ap
        (λ (queue : List UnitAttention).
        cond {A = Option UnitAttention} (is_blocked_in (profile_of s) cdb) (slice_get queue 0) None) own in
        let conflict : reservation_conflict s i cdb ≡ reservation_conflict t i cdb =
        conflict-same (class_in (profile_of s) cdb) in
        λ d. first_some (
        empty_cdb command ∷ option_and_then (if_it_outranks s) (blocking d) ∷ conflict d
        ∷ option_map attention_refusal (blocking d) ∷ unknown_opcode command ∷ short_cdb command
        ∷ bad_field command ∷ [])

  pub parse-same : (data_out : List ℕ) (parsed : Result Command CdbFault)
      → checked_parse s parsed data_out ≡ checked_parse t parsed data_out
  parse-same data_out (Err fault) = refl
  parse-same data_out (Ok command) = refl
