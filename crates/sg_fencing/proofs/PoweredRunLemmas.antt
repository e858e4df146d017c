-- Over a list of events the holder's view and its answers depend only on its commands and the
-- happenings.
use Rattle.std.proofs.Common.{◌≡◌, ℕ, suc, Bool, true, false, cond, ◌&&◌, List, [], ◌∷◌, Some}
use Rattle.std.proofs.Common.{filter, take, refl, sym, ap, ◌∙◌, zero}
use Rattle.std.specs.List.{zip}
use Rattle.std.proofs.lemmas.Bool.{eqb-false, eqb-true, false≢true}
use Rattle.std.proofs.lemmas.List.{take-map}
use Rattle.sg_wire.specs.Laws.{CommandsHaveTheirClass}
use Rattle.sg_wire.specs.CdbDecoding.{command_of}
use Rattle.std.specs.Prelude.{if◌then◌else◌, ◌||◌, nat_le, nat_lt, slice_get}
use Rattle.sg_pages.specs.ModePowerOn.{after_power_on as pages_after_power_on}
use Rattle.sg_store.specs.Disk.{disk_grown, max_capacity}
use Rattle.sg_units.specs.Attentions.{pending_for}
use Rattle.sg_units.specs.Raised.{Conditions, raised_for_all, raised_for_each, raised_for_members}
use Rattle.sg_units.specs.declared.unit_attention.UnitAttention.{UnitAttention}
use Rattle.sg_units.specs.declared.unit_attention.UnitAttention.TheVariants as attention
use Rattle.sg_units.specs.declared.unit_attention.UnitAttention.TheVariants.{BusDeviceReset}
use Rattle.sg_units.specs.declared.unit_attention.UnitAttention.TheVariants.{CapacityDataChanged}
use Rattle.sg_units.specs.declared.unit_attention.UnitAttention.TheVariants.{ScsiBusReset}
use Rattle.sg_units.specs.PowerOn.{power_on_pending, empty_state}
use Rattle.sg_units.specs.Laws.{OneKeyEach, OthersAreRefused}
use Rattle.sg_units.specs.Registrations.{key_of}
use Rattle.sg_units.specs.Reservations.{has_type, is_holder}
use Rattle.sg_units.specs.declared.reservation_state.ReservationState.{ReservationState}
use Rattle.sg_units.specs.declared.types.ReservationType.TheVariants.{ExclusiveAccess}
use Rattle.sg_units.specs.declared.types.ReservationType.TheVariants.{WriteExclusive}
use Rattle.sg_fencing.specs.Fencing.{GivesNothingAway}
use Rattle.sg_fencing.specs.Fencing.{IsAsIfAlone, NobodyElseStarts, View, calls_of, holds_alone}
use Rattle.sg_fencing.specs.Fencing.{is_compared, is_from, shows_others, view_of}
use Rattle.sg_fencing.specs.ChosenAnswers.{answers_among, calls_among}
use Rattle.sg_fencing.specs.PowerCycles.{events_of, persists, PersistAtPowerCycles}
use Rattle.sg_target.specs.PowerCycle.{after_power_cycle}
use Rattle.sg_target.specs.Happenings.{after_growth, after_happening, after_reset, grown, with_raised}
use Rattle.sg_target.specs.declared.happening.Happening.{Happening}
use Rattle.sg_target.specs.declared.happening.Happening.TheVariants.{Power, LogicalUnitReset}
use Rattle.sg_target.specs.declared.happening.Happening.TheVariants.{TargetReset, NexusLoss}
use Rattle.sg_target.specs.declared.happening.Happening.TheVariants.{Establish, Grow}
use Rattle.sg_target.specs.declared.happening.Happening.TheVariants.{Arm, Disarm, DisarmAll}
use Rattle.sg_target.specs.Runs.{all_calls, answers_to_events, state_after_all}
use Rattle.sg_target.specs.Runs.{state_after_events, step_of}
use Rattle.sg_target.specs.State.{IsWithinLimits, State}
use Rattle.sg_target.specs.Step.{Answer}
use Rattle.sg_target.specs.declared.call.Call.{Call}
use Rattle.sg_target.specs.declared.event.Event.{Event}
use Rattle.sg_target.specs.declared.event.Event.TheVariants as event
use Rattle.sg_target.specs.Laws.{LimitsAreKept, is_power_cycle}
use Rattle.sg_target.proofs.GrowthLemmas.{by-growth}
use Rattle.sg_fencing.proofs.AlikeLemmas.{raised-equal, raised_one-equal}
use Rattle.sg_fencing.proofs.FencedRunLemmas.{both-more, none-more, own-step}
use Rattle.sg_fencing.proofs.OthersLemmas.{others-keep, same-stopped}
use Rattle.sg_fencing.proofs.OwnLemmas.{StepsAlike}
use Rattle.sg_fencing.proofs.PowerLemmas.{keeps}

-- events from one state, and those that happen to i from another one
pub record EventsAlike (first second : State) (i : ℕ) (events own : List Event) : Type 0 where
  pub view : view_of (state_after_events first events) i ≡ view_of (state_after_events second own) i
  pub answers : answers_among (is_compared i) first events
      ≡ answers_among (is_compared i) second own

-- two states that look alike to i
pub record LookAlike (first second : State) (i : ℕ) : Type 0 where
  pub first_within : IsWithinLimits first
  pub second_within : IsWithinLimits second
  pub identity : first.identity ≡ second.identity
  pub view : view_of first i ≡ view_of second i

module _ (limits : LimitsAreKept) (refuses : OthersAreRefused) (one : OneKeyEach)
    (classes : CommandsHaveTheirClass) (i : ℕ) where
  -- ---- a power cycle

  abbrev holding : ReservationState → Bool
  holding r = is_holder r i && has_type r.reservation WriteExclusive
      || is_holder r i && has_type r.reservation ExclusiveAccess

  by-flag : (r : ReservationState) (b : Bool)
      → holding (if b then record r { generation = 0 } else empty_state) ≡ true → b ≡ true
  by-flag r true h = refl
  by-flag r false h = h

  -- a reservation that is held after it did persist
  persisted : (state : State) → holds_alone (after_power_cycle state) i ≡ true
      → persists state ≡ true
  persisted state held = by-flag state.reservations (persists state) held

  -- what i sees after it
  abbrev powered : View → View
  powered view = record {
    disk = view.disk;
    modes = pages_after_power_on view.modes;
    attentions = pending_for power_on_pending i;
    key = view.key;
    reservation = view.reservation;
    stopped = false;
  }

  view-powered : (state : State) → persists state ≡ true
      → view_of (after_power_cycle state) i ≡ powered (view_of state i)
  view-powered state p =
      let kept = keeps state p in
      let key : key_of (after_power_cycle state).reservations.registrations i
      ≡ key_of state.reservations.registrations i = ap (λ r. key_of r i) kept.registrations in
      λ d. record (powered (view_of state i)) { key = key d; reservation = kept.reservation d }

  cycle-alike : (first second : State) → LookAlike first second i → persists first ≡ true
      → persists second ≡ true → LookAlike (after_power_cycle first) (after_power_cycle second) i
  cycle-alike first second h p q = record {
    first_within = limits.happening Power first h.first_within;
    second_within = limits.happening Power second h.second_within;
    identity = h.identity;
    view = view-powered first p ∙ ap powered h.view ∙ sym (view-powered second q);
  }

  -- ---- another happening

  raised-alike : (first second : State) (conditions : Conditions) → LookAlike first second i
      → pending_for (raised_for_each first.attentions conditions) i
      ≡ pending_for (raised_for_each second.attentions conditions) i
  raised-alike first second conditions h =
      raised-equal first.attentions second.attentions conditions i
      (ap (λ (view : View). view.attentions) h.view)

  view-raised : (first second : State) (conditions : Conditions) → LookAlike first second i
      → view_of (with_raised first conditions) i ≡ view_of (with_raised second conditions) i
  view-raised first second conditions h = λ d. record (h.view d) {
    attentions = raised-alike first second conditions h d;
  }

  view-reset : (first second : State) (condition : UnitAttention) → LookAlike first second i
      → view_of (after_reset condition first) i ≡ view_of (after_reset condition second) i
  view-reset first second condition h = λ d. record (h.view d) {
    modes = pages_after_power_on (h.view d).modes;
    stopped = false;
    attentions = raised-alike first second (raised_for_all condition) h d;
  }

  view-nexus : (first second : State) (j : ℕ) → LookAlike first second i
      → view_of (after_happening (NexusLoss j) first) i
      ≡ view_of (after_happening (NexusLoss j) second) i
  view-nexus first second j h = λ d. record (h.view d) {
    attentions = raised_one-equal first.attentions second.attentions j attention.NexusLoss i
        h.first_within.pending.one_for_each h.second_within.pending.one_for_each
        (ap (λ (view : View). view.attentions) h.view) d;
  }

  view-grown : (first second : State) (capacity : ℕ) → LookAlike first second i
      → view_of (after_growth capacity first) i ≡ view_of (after_growth capacity second) i
  view-grown first second capacity h =
      by-test (nat_lt first.disk.capacity capacity && nat_le capacity max_capacity)
      ∙ ap (λ (view : View). view_of (grown-if
      (nat_lt view.disk.capacity capacity && nat_le capacity max_capacity)) i) h.view
    where
      grown-if : Bool → State
      grown-if test = if test then grown capacity second else second

      by-test : (test : Bool)
          → view_of (if test then grown capacity first else first) i ≡ view_of (grown-if test) i
      by-test true = λ d. record (h.view d) {
        disk = disk_grown (h.view d).disk capacity;
        attentions = raised-alike first second (raised_for_all CapacityDataChanged) h d;
      }
      by-test false = h.view

  view-alike : (happening : Happening) (first second : State) → is_power_cycle happening ≡ false
      → LookAlike first second i
      → view_of (after_happening happening first) i ≡ view_of (after_happening happening second) i
  view-alike Power first second n h = absurd (false≢true (sym n))
  view-alike LogicalUnitReset first second n h = view-reset first second BusDeviceReset h
  view-alike TargetReset first second n h = view-reset first second ScsiBusReset h
  view-alike (NexusLoss j) first second n h = view-nexus first second j h
  view-alike (Establish condition initiators) first second n h =
      view-raised first second (raised_for_members initiators condition) h
  view-alike (Grow capacity) first second n h = view-grown first second capacity h
  view-alike (Arm fault) first second n h = h.view
  view-alike (Disarm number) first second n h = h.view
  view-alike DisarmAll first second n h = h.view

  identity-left : (happening : Happening) (state : State)
      → (after_happening happening state).identity ≡ state.identity
  identity-left (Grow capacity) state =
      by-growth (λ after. after.identity ≡ state.identity) capacity state (λ more fits. refl) refl
  identity-left _ state = refl

  happening-alike : (happening : Happening) (first second : State)
      → is_power_cycle happening ≡ false → LookAlike first second i
      → LookAlike (after_happening happening first) (after_happening happening second) i
  happening-alike happening first second n h = record {
    first_within = limits.happening happening first h.first_within;
    second_within = limits.happening happening second h.second_within;
    identity =
        identity-left happening first ∙ (h.identity ∙ sym (identity-left happening second));
    view = view-alike happening first second n h;
  }

  -- ---- a command

  abbrev exchanges : State → List Event → List (Call × Answer)
  exchanges state events =
      filter (λ (exchange : Call × Answer). is_compared i exchange.0)
      (zip (calls_among events) (answers_to_events state events))

  own-more : (first second : State) (call : Call) (events own : List Event)
      → StepsAlike (shows_others (command_of call.cdb.now)) i (step_of first call) (step_of second call)
      → EventsAlike (step_of first call).state (step_of second call).state i events own
      → EventsAlike first second i (event.Call call ∷ events) (event.Call call ∷ own)
  own-more first second call events own h rest = record {
    view = rest.view;
    answers =
        both-more call (is_from i call) (shows_others (command_of call.cdb.now))
        (step_of first call).answer (step_of second call).answer
        (exchanges (step_of first call).state events) (exchanges (step_of second call).state own)
        h.answer rest.answers;
  }

  other-more : (first second : State) (call : Call) (events own : List Event)
      → is_from i call ≡ false → EventsAlike (step_of first call).state second i events own
      → EventsAlike first second i (event.Call call ∷ events) own
  other-more first second call events own e rest = record {
    view = rest.view;
    answers =
        none-more call (is_from i call) (shows_others (command_of call.cdb.now))
        (step_of first call).answer (exchanges (step_of first call).state events) e
        ∙ rest.answers;
  }

  abbrev HoldsThroughout : State → List Event → Type 0
  HoldsThroughout state events =
      (n : ℕ) → holds_alone (state_after_events state (take n events)) i ≡ true

  -- what is known as the rest of the events begins
  abbrev AreAlike : (events own : List Event) → Type 0
  AreAlike events own =
      (first second : State) → LookAlike first second i → HoldsThroughout first events
      → NobodyElseStarts i first events → GivesNothingAway i first events
      → PersistAtPowerCycles second own
      → EventsAlike first second i events own

  -- the events go on by a command of i or of another
  by-caller : (call : Call) (events own : List Event) (is_own : Bool) → is_from i call ≡ is_own
      → AreAlike events own
      → AreAlike (event.Call call ∷ events) (cond is_own (event.Call call ∷ own) own)
  by-caller call events own true e rest first second a held starts keeps persist =
      let h = own-step one i first second call a.first_within a.second_within a.identity a.view (held 0)
      (eqb-true call.initiator i e) (keeps 0 call refl (eqb-true call.initiator i e)) in
      let next : LookAlike (step_of first call).state (step_of second call).state i = record {
        first_within = limits.command first call.initiator call.cdb.now call.data_out.now a.first_within;
        second_within = limits.command second call.initiator call.cdb.now call.data_out.now a.second_within;
        identity = h.identity;
        view = h.view;
      } in
      own-more first second call events own h
      (rest (step_of first call).state (step_of second call).state next (λ n. held (suc n))
      (λ n other at. starts (suc n) other at) (λ n other at. keeps (suc n) other at)
      (λ n at. persist (suc n) at))
  by-caller call events own false e rest first second a held starts keeps persist =
      let h = others-keep limits refuses classes first i call.initiator call.cdb.now call.data_out.now
      a.first_within (eqb-false call.initiator i e) (held 0) (held 1) in
      let stopped = same-stopped first.stopped (step_of first call).state.stopped h.left.not_stopped
      (starts 0 call refl (eqb-false call.initiator i e)) in
      let view : view_of (step_of first call).state i ≡ view_of first i =
      h.left.view ∙ ap (λ b. record (view_of first i) { stopped = b }) (sym stopped) in
      let next : LookAlike (step_of first call).state second i = record {
        first_within = limits.command first call.initiator call.cdb.now call.data_out.now a.first_within;
        second_within = a.second_within;
        identity = h.identity ∙ a.identity;
        view = view ∙ a.view;
      } in
      other-more first second call events own e
      (rest (step_of first call).state second next (λ n. held (suc n))
      (λ n other at. starts (suc n) other at) (λ n other at. keeps (suc n) other at) persist)

  pub events-alike : (events : List Event) → AreAlike events (events_of i events)
  events-alike [] first second a held starts keeps persist = record { view = a.view; answers = refl }
  events-alike (event.Call call ∷ events) first second a held starts keeps persist =
      by-caller call events (events_of i events) (is_from i call) refl (events-alike events) first second
      a held starts keeps persist
  events-alike (event.Happen Power ∷ events) first second a held starts keeps persist =
      let next = cycle-alike first second a (persisted first (held 1)) (persist 0 refl) in
      let rest = events-alike events (after_power_cycle first) (after_power_cycle second) next
      (λ n. held (suc n)) (λ n other at. starts (suc n) other at) (λ n other at. keeps (suc n) other at)
      (λ n at. persist (suc n) at) in
      record { view = rest.view; answers = rest.answers }
  events-alike (event.Happen happening ∷ events) first second a held starts keeps persist =
      let next = happening-alike happening first second refl a in
      let rest = events-alike events (after_happening happening first)
      (after_happening happening second) next (λ n. held (suc n))
      (λ n other at. starts (suc n) other at) (λ n other at. keeps (suc n) other at)
      (λ n at. persist (suc n) at) in
      record { view = rest.view; answers = rest.answers }

  -- ---- commands alone are events

  one-of : (call : Call) (is_own : Bool) (events : List Event) (calls : List Call)
      → events ≡ all_calls calls
      → cond is_own (event.Call call ∷ events) events ≡ all_calls (cond is_own (call ∷ calls) calls)
  one-of call true events calls e = ap (λ rest. event.Call call ∷ rest) e
  one-of call false events calls e = e

  events-of-all : (calls : List Call) → events_of i (all_calls calls) ≡ all_calls (calls_of i calls)
  events-of-all [] = refl
  events-of-all (call ∷ calls) =
      one-of call (is_from i call) (events_of i (all_calls calls)) (calls_of i calls)
      (events-of-all calls)

  no-power : (calls : List Call) (n : ℕ) → slice_get (all_calls calls) n ≡ Some (event.Happen Power) → ⊥
  no-power [] n e = cc
  no-power (call ∷ calls) zero e = cc
  no-power (call ∷ calls) (suc n) e = no-power calls n e

  pub calls-alike : (state : State) (calls : List Call) → IsWithinLimits state
      → ((n : ℕ) → holds_alone (state_after_all state (take n calls)) i ≡ true)
      → NobodyElseStarts i state (all_calls calls) → GivesNothingAway i state (all_calls calls)
      → IsAsIfAlone state i calls
  calls-alike state calls w held starts keeps =
      let same : LookAlike state state i = record {
        first_within = w;
        second_within = w;
        identity = refl;
        view = refl;
      } in
      let own = events-of-all calls in
      let throughout : HoldsThroughout state (all_calls calls) =
      λ n. rw (take-map (λ (call : Call). event.Call call) n calls) (held n) in
      let persist : PersistAtPowerCycles state (events_of i (all_calls calls)) =
      rw own (λ n at. absurd (no-power (calls_of i calls) n at)) in
      let h = events-alike (all_calls calls) state state same throughout starts keeps persist in
      record {
        view = h.view ∙ ap (λ events. view_of (state_after_events state events) i) own;
        answers = h.answers ∙ ap (answers_among (is_compared i) state) own;
      }
