-- Power cycles, by themselves and among commands.
use Rattle.std.proofs.Common.{◌≡◌, ◌<◌, ℕ, suc, Bool, true, false, List, [], ◌∷◌, Option, Some}
use Rattle.std.proofs.Common.{refl, ap, ◌∙◌}
use Rattle.std.specs.Prelude.{if◌then◌else◌}
use Rattle.std.proofs.lemmas.List.{get_or-replicate}
use Rattle.sg_wire.specs.CdbDecoding.{class_of}
use Rattle.sg_wire.specs.declared.command.Class.TheVariants.{Writes}
use Rattle.sg_wire.specs.Initiator.{initiator_count}
use Rattle.sg_units.specs.Attentions.{pending_for}
use Rattle.sg_units.specs.Laws.{OthersAreRefused}
use Rattle.sg_units.specs.PowerOn.{after_power_on, empty_state}
use Rattle.sg_units.specs.Registrations.{is_registered}
use Rattle.sg_units.specs.declared.registrations.Registration.{Registration}
use Rattle.sg_units.specs.declared.reservation.Reservation.{Reservation}
use Rattle.sg_units.specs.declared.reservation_state.ReservationState.{ReservationState}
use Rattle.sg_units.specs.declared.unit_attention.UnitAttention.TheVariants.{PowerOn}
use Rattle.sg_target.specs.Happenings.{after_happening}
use Rattle.sg_target.specs.PowerCycle.{after_power_cycle}
use Rattle.sg_target.specs.declared.happening.Happening.{Happening}
use Rattle.sg_target.specs.declared.happening.Happening.TheVariants.{Grow, Power}
use Rattle.sg_target.proofs.GrowthLemmas.{by-growth}
use Rattle.sg_target.specs.Runs.{state_after_events, step_of}
use Rattle.sg_target.specs.State.{State}
use Rattle.sg_target.specs.declared.call.Call.{Call}
use Rattle.sg_target.specs.declared.event.Event.{Event}
use Rattle.sg_target.specs.declared.event.Event.TheVariants as event
use Rattle.sg_target.specs.declared.reply.Status.TheVariants.{Good}
use Rattle.sg_fencing.specs.PowerCycles.{HasNoReservations, KeepsReservations, persists}
use Rattle.sg_fencing.specs.Registrants.{IsNeverGranted, is_registrant, is_reserved}
use Rattle.sg_fencing.proofs.OutsiderRunLemmas.{not-first, writes-refused}
use Rattle.sg_fencing.proofs.RegisteringLemmas.{unknown-after-call}

-- ---- One power cycle

abbrev left : (persists : Bool) → ReservationState → ReservationState
left persists r = if persists then record r { generation = 0 } else empty_state

pub keeps : (state : State) → persists state ≡ true
    → KeepsReservations state (after_power_cycle state)
keeps state h = record {
  registrations = ap (λ b. (left b state.reservations).registrations) h;
  reservation = ap (λ b. (left b state.reservations).reservation) h;
  persist = ap (λ b. (left b state.reservations).persists_through_power_loss) h ∙ h;
  generation = ap (λ b. (left b state.reservations).generation) h;
}

pub drops : (state : State) → persists state ≡ false → HasNoReservations (after_power_cycle state)
drops state h = record {
  registrations = ap (λ b. (left b state.reservations).registrations) h;
  reservation = ap (λ b. (left b state.reservations).reservation) h;
  persist = ap (λ b. (left b state.reservations).persists_through_power_loss) h;
  generation = ap (λ b. (left b state.reservations).generation) h;
}

pub power-on-pending : (state : State) (i : ℕ) → i < initiator_count
    → pending_for (after_power_cycle state).attentions i ≡ PowerOn ∷ []
power-on-pending state i h = get_or-replicate initiator_count i (PowerOn ∷ []) [] h

same-twice : (registrations : List Registration) (reservation : Option Reservation)
    (generation : ℕ) (persists : Bool) →
    (let r : ReservationState = record {
      registrations = registrations;
      reservation = reservation;
      generation = generation;
      persists_through_power_loss = persists;
    } in
    after_power_on (after_power_on r) ≡ after_power_on r)
same-twice registrations reservation generation true = refl
same-twice registrations reservation generation false = refl

pub twice : (state : State)
    → after_power_cycle (after_power_cycle state) ≡ after_power_cycle state
twice state =
    let r = state.reservations in
    let same : after_power_on (after_power_on r) ≡ after_power_on r =
    same-twice r.registrations r.reservation r.generation r.persists_through_power_loss in
    λ d. record (after_power_cycle state) { reservations = same d }

-- ---- Among commands

-- a happening registers nobody
pub unknown-after : (happening : Happening) (state : State) (i : ℕ) → is_registrant state i ≡ false
    → is_registrant (after_happening happening state) i ≡ false
unknown-after Power state i unknown = split (persists state)
  where
    split : (b : Bool) → is_registered (left b state.reservations).registrations i ≡ false
    split true = unknown
    split false = refl
unknown-after (Grow capacity) state i unknown =
    by-growth (λ after. is_registrant after i ≡ false) capacity state (λ more fits. unknown) unknown
unknown-after _ state i unknown = unknown

pub unknown-still : (state : State) (i : ℕ) (events : List Event) → is_registrant state i ≡ false
    → IsNeverGranted i state events → is_registrant (state_after_events state events) i ≡ false
unknown-still state i [] unknown refused = unknown
unknown-still state i (event.Call first ∷ events) unknown refused =
    unknown-still (step_of state first).state i events
    (unknown-after-call state i first unknown (refused 0 first refl))
    (λ n call at. refused (suc n) call at)
unknown-still state i (event.Happen happening ∷ events) unknown refused =
    unknown-still (after_happening happening state) i events (unknown-after happening state i unknown)
    (λ n call at. refused (suc n) call at)

pub stays-fenced-off : OthersAreRefused → (state : State) (i : ℕ) (events : List Event)
    (call : Call)
    → is_registrant state i ≡ false → IsNeverGranted i state events
    → call.initiator ≡ i → class_of call.cdb.now ≡ Some Writes
    → is_reserved (state_after_events state events) ≡ true
    → (step_of (state_after_events state events) call).answer.status ≡ Good → ⊥
stays-fenced-off refuses state i events call unknown refused from writes held good =
    not-first is_reserved Writes (writes-refused refuses) (state_after_events state events) i call
    (unknown-still state i events unknown refused) from writes held good
