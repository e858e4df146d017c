-- The lemmas of the laws.
use Rattle.std.proofs.Common.{◌≡◌, ◌⊎◌, inl, inr, ◌≤◌, ◌<◌, ◌+◌, ◌%◌, ◌^◌, ◌==◌, ℕ, Bool, true}
use Rattle.std.proofs.Common.{false, cond, ◌&&◌, ◌||◌, List, [], ◌∷◌, length, Option, Some}
use Rattle.std.proofs.Common.{None, Ok, Err, refl, sym, ap, ◌∙◌, arith}
use Rattle.std.specs.Prelude.{if◌then◌else◌, is_none}
use Rattle.std.specs.List.{list_any}
use Rattle.std.proofs.lemmas.Bool.{eqb-true, false_from_ne_true, false≢true}
use Rattle.std.proofs.lemmas.Bool.Decides.{nat_tests}
use Rattle.std.proofs.Math.Bool.{and-true}
use Rattle.sg_wire.specs.declared.command.Class.{Class}
use Rattle.sg_wire.specs.declared.command.Class.TheVariants.{Always, Reads, Writes}
use Rattle.sg_units.specs.Access.{access_of, allowed, allows, highest_class, is_within, standing_of}
use Rattle.sg_units.specs.Laws.{CountsChanges, HasOneHolder, IsHeldByAll, IsRefused}
use Rattle.sg_units.specs.ReserveOut.{Outcome, action_outcome, generation_after, outcome}
use Rattle.sg_units.specs.ReserveOut.{move_cases, preempt_cases, register_cases, register_together_cases}
use Rattle.sg_units.specs.ReserveOut.{release_cases}
use Rattle.sg_units.specs.ReserveOut.{reserve_cases, state_after, unchanged}
use Rattle.sg_units.specs.Registrations.{is_of, is_registered, is_registered_under, is_under}
use Rattle.sg_units.specs.Registrations.{registrations_of}
use Rattle.sg_units.specs.ReservationType.{is_all_registrants, is_shared, type_of}
use Rattle.sg_units.specs.Laws.{is_exclusive_access}
use Rattle.sg_units.specs.Reservations.{IsConsistent, has_holder, is_held_by}
use Rattle.sg_units.specs.Reservations.{is_held_if_any, is_holder, names_holder}
use Rattle.sg_units.specs.Reservations.{names_holder_if_any}
use Rattle.sg_units.specs.declared.access.Standing.{Standing}
use Rattle.sg_units.specs.declared.access.Standing.TheVariants.{Holder, Registrant, Unregistered}
use Rattle.sg_units.specs.declared.reservation_change.ReservationChange.{ReservationChange}
use Rattle.sg_wire.specs.declared.command.out_action.OutAction.{OutAction}
use Rattle.sg_wire.specs.declared.command.out_action.OutAction.TheVariants.{Register, Reserve}
use Rattle.sg_wire.specs.declared.command.out_action.OutAction.TheVariants.{Release, Clear, Preempt}
use Rattle.sg_wire.specs.declared.command.out_action.OutAction.TheVariants.{PreemptAndAbort}
use Rattle.sg_wire.specs.declared.command.out_action.OutAction.TheVariants.{RegisterAndIgnoreExistingKey}
use Rattle.sg_wire.specs.declared.command.out_action.OutAction.TheVariants.{RegisterAndMove}
use Rattle.sg_wire.specs.declared.out_list.OutList.{OutList}
use Rattle.sg_wire.specs.declared.profile.Rules.{Rules}
use Rattle.sg_units.specs.declared.registrations.Registration.{Registration}
use Rattle.sg_units.specs.declared.reservation.Reservation.{Reservation}
use Rattle.sg_units.specs.declared.reservation_state.ReservationState.{ReservationState}
use Rattle.sg_units.specs.declared.types.ReservationType.{ReservationType}
use Rattle.sg_units.specs.declared.types.ReservationType.TheVariants.{WriteExclusive}
use Rattle.sg_units.specs.declared.types.ReservationType.TheVariants.{ExclusiveAccess}
use Rattle.sg_units.specs.declared.types.ReservationType.TheVariants.{WriteExclusiveRegistrantsOnly}
use Rattle.sg_units.specs.declared.types.ReservationType.TheVariants.{ExclusiveAccessRegistrantsOnly}
use Rattle.sg_units.specs.declared.types.ReservationType.TheVariants.{WriteExclusiveAllRegistrants}
use Rattle.sg_units.specs.declared.types.ReservationType.TheVariants.{ExclusiveAccessAllRegistrants}
use Rattle.sg_units.specs.declared.unit_attention.UnitAttention.{UnitAttention}
use Rattle.sg_units.proofs.ConsistencyLemmas.{is_registered-under, registrations_of-cons}
use Rattle.sg_units.proofs.OutcomeLemmas.{EffectIs, FirstIs, case_or, choice, if-accepted, effective}
use Rattle.sg_units.proofs.OutcomeLemmas.{last_case, refused, releasing, taking, typed}

-- ---- One key each

one_at_least : (b n : Bool) (m : ℕ) → (n ≡ true → 1 ≤ m) → (b || n) ≡ true
    → 1 ≤ cond {A = ℕ} b 1 0 + m
one_at_least true n m f h = omega arith
one_at_least false n m f h =
    let k = f h in
    omega arith

some_registration : (rs : List Registration) (i : ℕ) → is_registered rs i ≡ true
    → 1 ≤ registrations_of rs i
some_registration [] i h = absurd (false≢true h)
some_registration (r ∷ rs) i h =
    let m = registrations_of rs i in
    let k = one_at_least (is_of i r) (is_registered rs i) m (some_registration rs i) h in
    let step = registrations_of-cons r rs i in
    omega arith

unregistered_under : (rs : List Registration) (i key : ℕ) → registrations_of rs i ≡ 0
    → is_registered_under rs i key ≡ false
unregistered_under rs i key none =
    false_from_ne_true (is_registered_under rs i key)
    (λ h.
    let k = some_registration rs i (is_registered-under rs i key h) in
    omega arith)

or_left_true : (a b : Bool) → b ≡ false → (a || b) ≡ true → a ≡ true
or_left_true true b h k = refl
or_left_true false b h k = absurd (false≢true (sym h ∙ k))

key_here : (r : Registration) (rs : List Registration) (i first second : ℕ) (b : Bool)
    → cond {A = ℕ} b 1 0 + registrations_of rs i ≤ 1
    → (registrations_of rs i ≤ 1 → is_registered_under rs i first ≡ true
    → is_registered_under rs i second ≡ true → first ≡ second)
    → ((b && is_under first r) || is_registered_under rs i first) ≡ true
    → ((b && is_under second r) || is_registered_under rs i second) ≡ true → first ≡ second
key_here r rs i first second true h rest e f =
    let none : registrations_of rs i ≡ 0 = omega arith in
    let one = or_left_true (is_under first r) _ (unregistered_under rs i first none) e in
    let two = or_left_true (is_under second r) _ (unregistered_under rs i second none) f in
    grind (arith, nat_tests)
key_here r rs i first second false h rest e f = rest (omega arith) e f

pub key_each : (rs : List Registration) (i first second : ℕ) → registrations_of rs i ≤ 1
    → is_registered_under rs i first ≡ true → is_registered_under rs i second ≡ true
    → first ≡ second
key_each [] i first second h e f = absurd (false≢true e)
key_each (r ∷ rs) i first second h e f =
    let step = registrations_of-cons r rs i in
    let few : cond {A = ℕ} (is_of i r) 1 0 + registrations_of rs i ≤ 1 = omega arith in
    key_here r rs i first second (is_of i r) few (key_each rs i first second) e f

-- ---- Holders

and_implied : (a b : Bool) → (b ≡ true → a ≡ true) → (a && b) ≡ b
and_implied true b h = refl
and_implied false true h = absurd (false≢true (h refl))
and_implied false false h = refl

abbrev with_holder : ReservationType → Option ℕ → Reservation
with_holder type holder = record { kind = type; holder = holder }

-- the named holder is registered, and is the only holder
named_holder : (rs : List Registration) (type : ReservationType) (holder : Option ℕ) (named : ℕ)
    → holder ≡ Some named → has_holder (with_holder type holder) rs ≡ true
    → is_registered rs named ≡ true
named_holder rs type holder named e h =
    ap (λ o. has_holder (with_holder type o) rs) (sym e) ∙ h

alone : (rs : List Registration) (type : ReservationType) (holder : Option ℕ) (named other : ℕ)
    → holder ≡ Some named → is_registered rs named ≡ true
    → is_held_by (Some (with_holder type holder)) rs other ≡ (other == named)
alone rs type holder named other e here =
    ap (λ o. is_held_by (Some (with_holder type o)) rs other) e
    ∙ and_implied (is_registered rs other) (other == named)
    (λ h. ap (is_registered rs) (eqb-true other named h) ∙ here)

held_now : (state : ReservationState) (reservation : Reservation) → IsConsistent state
    → state.reservation ≡ Some reservation → has_holder reservation state.registrations ≡ true
held_now state reservation h e = ap (λ o. is_held_if_any o state.registrations) (sym e) ∙ h.held

named_now : (state : ReservationState) (reservation : Reservation) (all_registrants : Bool)
    → IsConsistent state → state.reservation ≡ Some reservation
    → is_all_registrants reservation.kind ≡ all_registrants
    → names_holder all_registrants reservation.holder ≡ true
named_now state reservation all_registrants h e k =
    ap (λ b. names_holder b reservation.holder) (sym k)
    ∙ (ap names_holder_if_any (sym e) ∙ h.holder)

pub one_holder : (state : ReservationState) (reservation : Reservation) → IsConsistent state
    → state.reservation ≡ Some reservation → is_all_registrants reservation.kind ≡ false
    → HasOneHolder state reservation.holder
one_holder state reservation h e one =
    let rs = state.registrations in
    let held = held_now state reservation h e in
    let registered = λ (i : ℕ) (named : reservation.holder ≡ Some i).
    named_holder rs reservation.kind reservation.holder i named held in
    record {
      named = named_now state reservation false h e one;
      registered = registered;
      alone =
          λ i j named.
          ap (λ o. is_held_by o rs j) e
          ∙ alone rs reservation.kind reservation.holder i j named (registered i named);
    }

no_holder : (holder : Option ℕ) → is_none holder ≡ true → holder ≡ None
no_holder None h = refl
no_holder (Some n) h = absurd (false≢true h)

not_empty : (p : Registration → Bool) (rs : List Registration) → list_any p rs ≡ true
    → 0 < length rs
not_empty p [] h = absurd (false≢true h)
not_empty p (r ∷ rs) h = omega arith

pub held_by_all : (state : ReservationState) (reservation : Reservation) → IsConsistent state
    → state.reservation ≡ Some reservation → is_all_registrants reservation.kind ≡ true
    → IsHeldByAll state
held_by_all state reservation h e all =
    let rs = state.registrations in
    let none = no_holder reservation.holder (named_now state reservation true h e all) in
    record {
      holders =
          λ i.
          ap (λ o. is_held_by o rs i) e
          ∙ (ap (λ o. is_held_by (Some (with_holder reservation.kind o)) rs i) none
          ∙ and-true (is_registered rs i));
      at_least_one = not_empty _ rs (held_now state reservation h e);
    }

-- ---- Access

abbrev unless_holder : (registered : Bool) → Standing
unless_holder registered = if registered then Registrant else Unregistered

writes_refused : (type : ReservationType) (registered : Bool)
    → (registered && is_shared type) ≡ false
    → is_within (highest_class (access_of type) (unless_holder registered)) Writes ≡ false
writes_refused WriteExclusive true h = refl
writes_refused ExclusiveAccess true h = refl
writes_refused WriteExclusiveRegistrantsOnly true h = absurd (false≢true (sym h))
writes_refused ExclusiveAccessRegistrantsOnly true h = absurd (false≢true (sym h))
writes_refused WriteExclusiveAllRegistrants true h = absurd (false≢true (sym h))
writes_refused ExclusiveAccessAllRegistrants true h = absurd (false≢true (sym h))
writes_refused WriteExclusive false h = refl
writes_refused ExclusiveAccess false h = refl
writes_refused WriteExclusiveRegistrantsOnly false h = refl
writes_refused ExclusiveAccessRegistrantsOnly false h = refl
writes_refused WriteExclusiveAllRegistrants false h = refl
writes_refused ExclusiveAccessAllRegistrants false h = refl

reads_refused : (type : ReservationType) (registered : Bool)
    → (registered && is_shared type) ≡ false → is_exclusive_access type ≡ true
    → is_within (highest_class (access_of type) (unless_holder registered)) Reads ≡ false
reads_refused WriteExclusive registered h k = absurd (false≢true k)
reads_refused ExclusiveAccess true h k = refl
reads_refused ExclusiveAccess false h k = refl
reads_refused WriteExclusiveRegistrantsOnly registered h k = absurd (false≢true k)
reads_refused ExclusiveAccessRegistrantsOnly true h k = absurd (false≢true (sym h))
reads_refused ExclusiveAccessRegistrantsOnly false h k = refl
reads_refused WriteExclusiveAllRegistrants registered h k = absurd (false≢true k)
reads_refused ExclusiveAccessAllRegistrants true h k = absurd (false≢true (sym h))
reads_refused ExclusiveAccessAllRegistrants false h k = refl

-- the classes that a held reservation allows to an initiator
allows_held : (state : ReservationState) (reservation : Reservation) (i : ℕ) (class : Class)
    (holder : Bool) → state.reservation ≡ Some reservation → is_holder state i ≡ holder
    → allows state i class
    ≡ is_within (highest_class (access_of reservation.kind)
    (if holder then Holder else unless_holder (is_registered state.registrations i))) class
allows_held state reservation i class holder e k =
    let standing = λ (b : Bool).
    cond {A = Standing} b Holder (unless_holder (is_registered state.registrations i)) in
    ap (λ o. allowed o (standing_of state i) class) e
    ∙ ap (λ b. allowed (Some reservation) (standing b) class) k

pub refused_others : (state : ReservationState) (reservation : Reservation) (i : ℕ)
    → state.reservation ≡ Some reservation → is_holder state i ≡ false
    → (is_registered state.registrations i && is_shared reservation.kind) ≡ false
    → IsRefused state reservation i
refused_others state reservation i e k h =
    let registered = is_registered state.registrations i in
    record {
      writes =
          allows_held state reservation i Writes false e k
          ∙ writes_refused reservation.kind registered h;
      reads =
          λ exclusive.
          allows_held state reservation i Reads false e k
          ∙ reads_refused reservation.kind registered h exclusive;
    }

every_class : (class : Class) → is_within Writes class ≡ true
every_class Always = refl
every_class Reads = refl
every_class Writes = refl

holder_class : (type : ReservationType) → highest_class (access_of type) Holder ≡ Writes
holder_class WriteExclusive = refl
holder_class ExclusiveAccess = refl
holder_class WriteExclusiveRegistrantsOnly = refl
holder_class ExclusiveAccessRegistrantsOnly = refl
holder_class WriteExclusiveAllRegistrants = refl
holder_class ExclusiveAccessAllRegistrants = refl

sharer_class : (type : ReservationType) (registered : Bool)
    → (registered && is_shared type) ≡ true
    → highest_class (access_of type) (unless_holder registered) ≡ Writes
sharer_class type false h = absurd (false≢true h)
sharer_class WriteExclusive true h = absurd (false≢true h)
sharer_class ExclusiveAccess true h = absurd (false≢true h)
sharer_class WriteExclusiveRegistrantsOnly true h = refl
sharer_class ExclusiveAccessRegistrantsOnly true h = refl
sharer_class WriteExclusiveAllRegistrants true h = refl
sharer_class ExclusiveAccessAllRegistrants true h = refl

by_holder : (state : ReservationState) (reservation : Reservation) (i : ℕ) (class : Class)
    (holder : Bool) → state.reservation ≡ Some reservation → is_holder state i ≡ holder
    → (holder || (is_registered state.registrations i && is_shared reservation.kind)) ≡ true
    → allows state i class ≡ true
by_holder state reservation i class true e k h =
    allows_held state reservation i class true e k
    ∙ (ap (λ highest. is_within highest class) (holder_class reservation.kind)
    ∙ every_class class)
by_holder state reservation i class false e k h =
    let registered = is_registered state.registrations i in
    allows_held state reservation i class false e k
    ∙ (ap (λ highest. is_within highest class) (sharer_class reservation.kind registered h)
    ∙ every_class class)

pub allowed_sharers : (state : ReservationState) (reservation : Reservation) (i : ℕ)
    (class : Class) → state.reservation ≡ Some reservation
    → (is_holder state i
    || (is_registered state.registrations i && is_shared reservation.kind)) ≡ true
    → allows state i class ≡ true
allowed_sharers state reservation i class e h =
    by_holder state reservation i class (is_holder state i) e refl h

-- ---- PRGENERATION

abbrev Counted : ReservationState → ReservationChange → Type 0
Counted state change =
    change.increments_generation ≡ false → change.registrations ≡ state.registrations

stays : (state : ReservationState) (held : Option Reservation) (raised : Option UnitAttention)
    → EffectIs (Counted state)
    (Ok (record (unchanged state) { reservation = held; for_remaining = raised }))
stays state held raised = effective (Counted state) _ (λ _. refl)

counts : (state : ReservationState) (change : ReservationChange)
    → change.increments_generation ≡ true → EffectIs (Counted state) (Ok change)
counts state change is =
    effective (Counted state) change (λ e. absurd (false≢true (sym e ∙ is)))

counted-register : (rules : Rules) (state : ReservationState) (i : ℕ) (list : OutList)
    → FirstIs (EffectIs (Counted state)) (register_cases rules state i list)
unfolding register_cases
counted-register rules state i list =
    let P = Counted state in
    case_or (EffectIs P) _ _ (λ _. stays state _ _)
    (λ _. case_or (EffectIs P) _ _ (λ _. refused P _)
    (λ _. case_or (EffectIs P) _ _ (λ _. counts state _ refl)
    (λ _. case_or (EffectIs P) _ _ (λ _. counts state _ refl)
    (λ _. last_case (EffectIs P) _ _ refl (counts state _ refl)))))

counted-together : (state : ReservationState) (i : ℕ) (list : OutList)
    → FirstIs (EffectIs (Counted state)) (register_together_cases state i list)
unfolding register_together_cases
counted-together state i list =
    let P = Counted state in
    case_or (EffectIs P) _ _ (λ _. stays state _ _)
    (λ _. case_or (EffectIs P) _ _ (λ _. refused P _)
    (λ _. case_or (EffectIs P) _ _ (λ _. refused P _)
    (λ _. case_or (EffectIs P) _ _ (λ _. refused P _)
    (λ _. last_case (EffectIs P) _ _ refl (counts state _ refl)))))

counted-move : (state : ReservationState) (i : ℕ) (list : OutList)
    → FirstIs (EffectIs (Counted state)) (move_cases state i list)
unfolding move_cases
counted-move state i list =
    let P = Counted state in
    case_or (EffectIs P) _ _ (λ _. refused P _)
    (λ _. case_or (EffectIs P) _ _ (λ _. refused P _)
    (λ _. case_or (EffectIs P) _ _ (λ _. refused P _)
    (λ _. case_or (EffectIs P) _ _ (λ _. refused P _)
    (λ _. case_or (EffectIs P) _ _ (λ _. refused P _)
    (λ _. case_or (EffectIs P) _ _ (λ _. refused P _)
    (λ _. case_or (EffectIs P) _ _ (λ _. refused P _)
    (λ _. last_case (EffectIs P) _ _ refl (counts state _ refl))))))))

counted-reserve : (state : ReservationState) (i : ℕ) (type : ReservationType)
    → FirstIs (EffectIs (Counted state)) (reserve_cases state i type)
unfolding reserve_cases
counted-reserve state i type =
    let P = Counted state in
    case_or (EffectIs P) _ _ (λ _. stays state _ _)
    (λ _. case_or (EffectIs P) _ _ (λ _. stays state _ _)
    (λ _. last_case (EffectIs P) _ _ refl (refused P _)))

counted-release : (state : ReservationState) (i : ℕ) (type : ReservationType)
    → FirstIs (EffectIs (Counted state)) (release_cases state i type)
unfolding release_cases
counted-release state i type =
    let P = Counted state in
    case_or (EffectIs P) _ _ (λ _. stays state _ _)
    (λ _. case_or (EffectIs P) _ _ (λ _. refused P _)
    (λ _. last_case (EffectIs P) _ _ refl (stays state _ _)))

counted-preempt : (rules : Rules) (state : ReservationState) (i : ℕ) (type : Option ReservationType)
    (sark : ℕ) → FirstIs (EffectIs (Counted state)) (preempt_cases rules state i type sark)
unfolding preempt_cases
counted-preempt rules state i type sark =
    let P = Counted state in
    let held = state.reservation in
    case_or (EffectIs P) _ _ (λ _. refused P _)
    (λ _. case_or (EffectIs P) _ _ (λ _. refused P _)
    (λ _. case_or (EffectIs P) _ _ (λ _. taking P held i type _ (λ type. counts state _ refl))
    (λ _. case_or (EffectIs P) _ _ (λ _. taking P held i type _ (λ type. counts state _ refl))
    (λ _. case_or (EffectIs P) _ _ (λ _. refused P _)
    (λ _. last_case (EffectIs P) _ _ refl (counts state _ refl))))))

counted-action : (rules : Rules) (state : ReservationState) (i : ℕ) (action : OutAction)
    (type : Option ReservationType) (list : OutList)
    → EffectIs (Counted state) (action_outcome rules state i action type list)
counted-action rules state i Register type list =
    choice (EffectIs (Counted state)) list.spec_i_pt _ _ (λ _. (counted-together state i list).first)
    (λ _. (counted-register rules state i list).first)
counted-action rules state i Reserve type list =
    typed (Counted state) type _ (λ type. (counted-reserve state i type).first)
counted-action rules state i Release type list =
    releasing (Counted state) state i type (λ _. refl) (counted-release state i)
counted-action rules state i Clear type list = counts state _ refl
counted-action rules state i Preempt type list =
    (counted-preempt rules state i type list.service_action_key).first
counted-action rules state i PreemptAndAbort type list =
    (counted-preempt rules state i type list.service_action_key).first
counted-action rules state i RegisterAndIgnoreExistingKey type list =
    (counted-register rules state i list).first
counted-action rules state i RegisterAndMove type list = (counted-move state i list).first

counted-outcome : (rules : Rules) (state : ReservationState) (i : ℕ) (action : OutAction)
    (scope_type : ℕ) (list : OutList)
    → EffectIs (Counted state) (outcome rules state i action scope_type list)
counted-outcome rules state i action scope_type list =
    if-accepted (Counted state) rules state i action scope_type list
    (λ _. counted-action rules state i action (type_of scope_type) list)

same_or_next : (increments : Bool) (n : ℕ)
    → (generation_after increments n ≡ n) ⊎ (generation_after increments n ≡ (n + 1) % 2 ^ 32)
same_or_next true n = inr refl
same_or_next false n = inl refl

not_incremented : (increments : Bool) (n : ℕ) → n < 2 ^ 32 → generation_after increments n ≡ n
    → increments ≡ false
not_incremented true n h e = absurd (omega arith)
not_incremented false n h e = refl

counts_changes : (state : ReservationState) (o : Outcome) → state.generation < 2 ^ 32
    → EffectIs (Counted state) o → CountsChanges state (state_after state o)
counts_changes state (Ok change) h k = record {
  by_one = same_or_next change.increments_generation state.generation;
  unchanged =
      λ e. k.shown change refl (not_incremented change.increments_generation state.generation h e);
}
counts_changes state (Err fault) h k = record { by_one = inl refl; unchanged = λ e. refl }

pub generation_counts : (rules : Rules) (state : ReservationState) (i : ℕ) (action : OutAction)
    (scope_type : ℕ) (list : OutList) → state.generation < 2 ^ 32
    → CountsChanges state (state_after state (outcome rules state i action scope_type list))
generation_counts rules state i action scope_type list h =
    counts_changes state _ h (counted-outcome rules state i action scope_type list)
