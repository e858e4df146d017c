-- Every service action of PERSISTENT RESERVE OUT leaves registrations and reservation consistent.
use Rattle.std.proofs.Common.{◌≡◌, ◌≤◌, ◌+◌, ◌==◌, ℕ, Bool, true, false, cond, ◌&&◌, ◌||◌}
use Rattle.std.proofs.Common.{List, [], ◌∷◌, length, filter, Option, Some, None, refl}
use Rattle.std.proofs.Common.{ap, ◌∙◌, arith}
use Rattle.std.specs.Prelude.{if◌then◌else◌, nat_le}
use Rattle.std.specs.List.{fold, list_any}
use Rattle.std.proofs.lemmas.Bool.{cond_both, false≢true, or_left, or_parts}
use Rattle.std.proofs.lemmas.Bool.Decides.{nat_tests}
use Rattle.std.proofs.lemmas.List.{length-append}
use Rattle.std.proofs.lemmas.List.Folds.{list_any-append}
use Rattle.std.proofs.lemmas.List.Sums.{sum_by-cons, sum_by_push, length-filter, count_by-le-length}
use Rattle.sg_units.specs.ReserveOut.{registered_too}
use Rattle.sg_units.specs.ReserveOut.{registration_by}
use Rattle.sg_units.specs.Registrations.{has_key, is_of, is_registered, is_registered_under}
use Rattle.sg_units.specs.Registrations.{is_under}
use Rattle.sg_units.specs.Registrations.{max_registrations, registrations_of, with_registration}
use Rattle.sg_units.specs.Registrations.{room_for_registrations, with_replaced}
use Rattle.sg_units.specs.ReservationType.{is_all_registrants}
use Rattle.sg_units.specs.Reservations.{AreConsistent, has_holder, holds}
use Rattle.sg_units.specs.Reservations.{is_held_if_any, names_holder, names_holder_if_any, taken}
use Rattle.sg_units.specs.Reservations.{while_held}
use Rattle.sg_wire.specs.declared.out_list.OutList.{OutList}
use Rattle.sg_wire.specs.declared.profile.Rules.{Rules}
use Rattle.sg_units.specs.declared.registrations.Registration.{Registration}
use Rattle.sg_units.specs.declared.reservation.Reservation.{Reservation}
use Rattle.sg_units.specs.declared.types.ReservationType.{ReservationType}

-- ---- How often an initiator is registered

pub registrations_of-cons : (r : Registration) (rs : List Registration) (i : ℕ)
    → registrations_of (r ∷ rs) i ≡ cond (is_of i r) 1 0 + registrations_of rs i
registrations_of-cons r rs i = sum_by-cons (λ q. cond (is_of i q) 1 0) r rs

kept : (r : Registration) (rs ys : List Registration) (i : ℕ) (b : Bool)
    → registrations_of ys i ≤ registrations_of rs i
    → registrations_of (cond b (r ∷ ys) ys) i ≤ registrations_of (r ∷ rs) i
kept r rs ys i true h =
    omega (arith, registrations_of-cons r rs i, registrations_of-cons r ys i)
kept r rs ys i false h = omega (arith, registrations_of-cons r rs i)

-- a filter keeps no more registrations
pub registrations_of-filter : (p : Registration → Bool) (rs : List Registration) (i : ℕ)
    → registrations_of (filter p rs) i ≤ registrations_of rs i
registrations_of-filter p [] i = omega arith
registrations_of-filter p (r ∷ rs) i =
    kept r rs (filter p rs) i (p r) (registrations_of-filter p rs i)

pub registrations_of-none : (rs : List Registration) (i : ℕ) → is_registered rs i ≡ false
    → registrations_of rs i ≡ 0
registrations_of-none [] i h = refl
registrations_of-none (r ∷ rs) i h =
    let rest = registrations_of-none rs i in
    let step = registrations_of-cons r rs i in
    grind (arith, rest, step)

registrations_of-push : (rs : List Registration) (new : Registration) (j : ℕ)
    → is_registered rs new.initiator ≡ false → registrations_of rs j ≤ 1
    → registrations_of (with_registration rs new) j ≤ 1
registrations_of-push rs new j h k =
    let push = sum_by_push (λ q. cond (is_of j q) 1 0) rs new in
    let none = registrations_of-none rs new.initiator h in
    grind (arith, nat_tests)

-- a registration that takes the place of another is the same initiator's
same_initiator : (r new : Registration) (b : Bool) → (r.initiator == new.initiator) ≡ b
    → (cond b new r).initiator ≡ r.initiator
same_initiator r new true h = grind (arith, nat_tests)
same_initiator r new false h = refl

pub registrations_of-replaced : (rs : List Registration) (new : Registration) (j : ℕ)
    → registrations_of (with_replaced rs new) j ≡ registrations_of rs j
registrations_of-replaced [] new j = refl
registrations_of-replaced (r ∷ rs) new j =
    let q : Registration = if is_of new.initiator r then new else r in
    let same : cond {A = ℕ} (is_of j q) 1 0 ≡ cond (is_of j r) 1 0 =
    ap (λ (n : ℕ). cond {A = ℕ} (n == j) 1 0) (same_initiator r new (is_of new.initiator r) refl) in
    let rest = registrations_of-replaced rs new j in
    omega (
      arith,
      registrations_of-cons q (with_replaced rs new) j,
      registrations_of-cons r rs j,
      same,
      rest,
    )

pub length-replaced : (rs : List Registration) (new : Registration)
    → length (with_replaced rs new) ≡ length rs
length-replaced [] new = refl
length-replaced (r ∷ rs) new = omega (arith, length-replaced rs new)

pub length-filter-le : (p : Registration → Bool) (rs : List Registration)
    → length (filter p rs) ≤ length rs
length-filter-le p rs = omega (arith, length-filter p rs, count_by-le-length p rs)

-- ---- Holders

pub has_holder-replaced : (reservation : Reservation) (rs : List Registration) (new : Registration)
    → has_holder reservation (with_replaced rs new) ≡ has_holder reservation rs
has_holder-replaced reservation [] new = refl
has_holder-replaced reservation (r ∷ rs) new =
    ap (λ n. holds reservation n || has_holder reservation (with_replaced rs new))
    (same_initiator r new (is_of new.initiator r) refl)
    ∙ ap (λ b. holds reservation r.initiator || b) (has_holder-replaced reservation rs new)

pub held-replaced : (held : Option Reservation) (rs : List Registration) (new : Registration)
    → is_held_if_any held rs ≡ true → is_held_if_any held (with_replaced rs new) ≡ true
held-replaced None rs new h = refl
held-replaced (Some reservation) rs new h = has_holder-replaced reservation rs new ∙ h

held-push : (held : Option Reservation) (rs : List Registration) (new : Registration)
    → is_held_if_any held rs ≡ true → is_held_if_any held (with_registration rs new) ≡ true
held-push None rs new h = refl
held-push (Some reservation) rs new h =
    let holder = λ (r : Registration). holds reservation r.initiator in
    list_any-append holder rs (new ∷ []) ∙ or_left (has_holder reservation rs) _ h

-- the rest of a reservation has a holder, and is as it was
held_if : (reservation : Reservation) (rest : List Registration) (b : Bool)
    → has_holder reservation rest ≡ b
    → is_held_if_any (if b then Some reservation else None) rest ≡ true
held_if reservation rest true h = h
held_if reservation rest false h = refl

pub held-while_held : (held : Option Reservation) (rest : List Registration)
    → is_held_if_any (while_held held rest) rest ≡ true
held-while_held None rest = refl
held-while_held (Some reservation) rest =
    held_if reservation rest (has_holder reservation rest) refl

named_if : (reservation : Reservation) (b : Bool) → names_holder_if_any (Some reservation) ≡ true
    → names_holder_if_any (if b then Some reservation else None) ≡ true
named_if reservation true h = h
named_if reservation false h = refl

pub named-while_held : (held : Option Reservation) (rest : List Registration)
    → names_holder_if_any held ≡ true → names_holder_if_any (while_held held rest) ≡ true
named-while_held None rest h = refl
named-while_held (Some reservation) rest h = named_if reservation (has_holder reservation rest) h

-- an initiator that is registered holds the reservation that it takes
anybody : (rs : List Registration) (i : ℕ) → is_registered rs i ≡ true
    → list_any (λ (r : Registration). true) rs ≡ true
anybody [] i h = absurd (false≢true h)
anybody (r ∷ rs) i h = refl

taken_if : (type : ReservationType) (all_registrants : Bool) (rs : List Registration) (i : ℕ)
    → is_registered rs i ≡ true →
    (let holder : Option ℕ = if all_registrants then None else Some i in
    has_holder (record { kind = type; holder = holder }) rs ≡ true)
taken_if type true rs i h = anybody rs i h
taken_if type false rs i h = h

pub has_holder-taken : (type : ReservationType) (rs : List Registration) (i : ℕ)
    → is_registered rs i ≡ true → has_holder (taken type i) rs ≡ true
has_holder-taken type rs i h = taken_if type (is_all_registrants type) rs i h

named_taken_if : (all_registrants : Bool) (i : ℕ)
    → names_holder all_registrants (if all_registrants then None else Some i) ≡ true
named_taken_if true i = refl
named_taken_if false i = refl

pub named-taken : (type : ReservationType) (i : ℕ) → names_holder_if_any (Some (taken type i)) ≡ true
named-taken type i = named_taken_if (is_all_registrants type) i

-- ---- Who stays registered

registered_first : (a b c d : Bool) → (c ≡ true → d ≡ true) → ((a && b) || c) ≡ true
    → (a || d) ≡ true
registered_first true b c d f h = refl
registered_first false b c d f h = f h

pub is_registered-under : (rs : List Registration) (i key : ℕ)
    → is_registered_under rs i key ≡ true → is_registered rs i ≡ true
is_registered-under [] i key h = absurd (false≢true h)
is_registered-under (r ∷ rs) i key h =
    registered_first (is_of i r) (is_under key r) (is_registered_under rs i key)
    (is_registered rs i) (is_registered-under rs i key) h

filtered_first : (r : Registration) (i : ℕ) (kept : Bool) (ys : List Registration) (was : Bool)
    → (is_of i r ≡ true → kept ≡ true) → (was ≡ true → is_registered ys i ≡ true)
    → (is_of i r || was) ≡ true → is_registered (cond kept (r ∷ ys) ys) i ≡ true
filtered_first r i true ys was f g h = grind arith
filtered_first r i false ys was f g h = grind arith

pub is_registered-filter : (p : Registration → Bool) (i : ℕ)
    → ((r : Registration) → is_of i r ≡ true → p r ≡ true) → (rs : List Registration)
    → is_registered rs i ≡ true → is_registered (filter p rs) i ≡ true
is_registered-filter p i f [] h = absurd (false≢true h)
is_registered-filter p i f (r ∷ rs) h =
    filtered_first r i (p r) (filter p rs) (is_registered rs i) (f r)
    (is_registered-filter p i f rs) h

-- ---- No key is 0

key-filtered : (key : ℕ) (r : Registration) (keep : Bool) (rest : List Registration)
    → is_under key r ≡ false → has_key rest key ≡ false
    → has_key (cond keep (r ∷ rest) rest) key ≡ false
key-filtered key r true rest e h = rw (e, h) refl
key-filtered key r false rest e h = h

pub has_key-filter : (p : Registration → Bool) (rs : List Registration) (key : ℕ)
    → has_key rs key ≡ false → has_key (filter p rs) key ≡ false
has_key-filter p [] key h = refl
has_key-filter p (r ∷ rs) key h =
    let parts = or_parts (is_under key r) (has_key rs key) h in
    key-filtered key r (p r) (filter p rs) parts.0 (has_key-filter p rs key parts.1)

key-replaced : (r new : Registration) (is_own : Bool) → is_under 0 new ≡ false
    → is_under 0 r ≡ false → is_under 0 (cond is_own new r) ≡ false
key-replaced r new true e h = e
key-replaced r new false e h = h

pub has_key-replaced : (rs : List Registration) (new : Registration) → is_under 0 new ≡ false
    → has_key rs 0 ≡ false → has_key (with_replaced rs new) 0 ≡ false
has_key-replaced [] new e h = refl
has_key-replaced (r ∷ rs) new e h =
    let parts = or_parts (is_under 0 r) (has_key rs 0) h in
    rw (key-replaced r new (is_of new.initiator r) e parts.0, has_key-replaced rs new e parts.1) refl

has_key-push : (rs : List Registration) (new : Registration) → is_under 0 new ≡ false
    → has_key rs 0 ≡ false → has_key (with_registration rs new) 0 ≡ false
has_key-push [] new e h = rw e refl
has_key-push (r ∷ rs) new e h =
    let parts = or_parts (is_under 0 r) (has_key rs 0) h in
    rw (parts.0, has_key-push rs new e parts.1) refl

-- ---- What is consistent

pub consistent-filter : (p : Registration → Bool) (rs : List Registration)
    (held new : Option Reservation) → AreConsistent rs held
    → is_held_if_any new (filter p rs) ≡ true → names_holder_if_any new ≡ true
    → AreConsistent (filter p rs) new
consistent-filter p rs held new h k n = record {
  one_each = λ i. omega (arith, h.one_each i, registrations_of-filter p rs i);
  no_zero_key = has_key-filter p rs 0 h.no_zero_key;
  within_room = omega (arith, h.within_room, length-filter-le p rs);
  held = k;
  holder = n;
}

pub consistent-replaced : (rs : List Registration) (held : Option Reservation) (new : Registration)
    → is_under 0 new ≡ false → AreConsistent rs held → AreConsistent (with_replaced rs new) held
consistent-replaced rs held new e h = record {
  one_each = λ j. omega (arith, h.one_each j, registrations_of-replaced rs new j);
  no_zero_key = has_key-replaced rs new e h.no_zero_key;
  within_room = omega (arith, h.within_room, length-replaced rs new);
  held = held-replaced held rs new h.held;
  holder = h.holder;
}

room : (rules : Rules) (rs : List Registration) → nat_le (room_for_registrations rules) (length rs) ≡ false
    → length rs + 1 ≤ max_registrations
room rules rs e =
    cond_both rules.has_room_for_all_registrations max_registrations 6
    (λ most. nat_le most (length rs) ≡ false → length rs + 1 ≤ max_registrations)
    (λ _ few. grind (arith, nat_tests)) (λ _ few. grind (arith, nat_tests)) e

-- all but the room for one registration more
pub record IsNearlyConsistent (rs : List Registration) (reservation : Option Reservation) : Type 0 where
  pub one_each : (initiator : ℕ) → registrations_of rs initiator ≤ 1
  pub no_zero_key : has_key rs 0 ≡ false
  pub held : is_held_if_any reservation rs ≡ true
  pub holder : names_holder_if_any reservation ≡ true

pub nearly-push : (rs : List Registration) (held : Option Reservation) (new : Registration)
    → is_registered rs new.initiator ≡ false → is_under 0 new ≡ false
    → IsNearlyConsistent rs held → IsNearlyConsistent (with_registration rs new) held
nearly-push rs held new unknown e h = record {
  one_each = λ j. registrations_of-push rs new j unknown (h.one_each j);
  no_zero_key = has_key-push rs new e h.no_zero_key;
  held = held-push held rs new h.held;
  holder = h.holder;
}

pub nearly : (rs : List Registration) (held : Option Reservation) → AreConsistent rs held
    → IsNearlyConsistent rs held
nearly rs held h = record {
  one_each = h.one_each;
  no_zero_key = h.no_zero_key;
  held = h.held;
  holder = h.holder;
}

pub consistent-within : (rs : List Registration) (held : Option Reservation) → IsNearlyConsistent rs held
    → length rs ≤ max_registrations → AreConsistent rs held
consistent-within rs held h room = record {
  one_each = h.one_each;
  no_zero_key = h.no_zero_key;
  within_room = room;
  held = h.held;
  holder = h.holder;
}

pub consistent-push : (rules : Rules) (rs : List Registration) (held : Option Reservation)
    (new : Registration) → is_registered rs new.initiator ≡ false
    → nat_le (room_for_registrations rules) (length rs) ≡ false → is_under 0 new ≡ false
    → AreConsistent rs held → AreConsistent (with_registration rs new) held
consistent-push rules rs held new unknown few e h =
    consistent-within (with_registration rs new) held
    (nearly-push rs held new unknown e (nearly rs held h))
    (omega (arith, length-append rs (new ∷ []), room rules rs few))

-- others are registered together with the caller
nearly-too : (held : Option Reservation) (list : OutList) (rs : List Registration) (named : Option ℕ)
    → (list.service_action_key == 0) ≡ false → IsNearlyConsistent rs held
    → IsNearlyConsistent (registered_too list rs named) held
nearly-too held list rs None e h = h
nearly-too held list rs (Some i) e h =
    cond_both (is_registered rs i) rs (with_registration rs (registration_by list i))
    (λ all. IsNearlyConsistent all held) (λ _. h)
    (λ unknown. nearly-push rs held (registration_by list i) unknown e h)

pub nearly-each : (held : Option Reservation) (list : OutList) (named : List (Option ℕ))
    (rs : List Registration) → (list.service_action_key == 0) ≡ false → IsNearlyConsistent rs held
    → IsNearlyConsistent (fold (registered_too list) rs named) held
nearly-each held list [] rs e h = h
nearly-each held list (one ∷ named) rs e h =
    nearly-each held list named (registered_too list rs one) e (nearly-too held list rs one e h)

pub consistent-held : (rs : List Registration) (held new : Option Reservation) → AreConsistent rs held
    → is_held_if_any new rs ≡ true → names_holder_if_any new ≡ true → AreConsistent rs new
consistent-held rs held new h k n =
    record {
      one_each = h.one_each;
      no_zero_key = h.no_zero_key;
      within_room = h.within_room;
      held = k;
      holder = n;
    }

pub consistent-none : AreConsistent [] None
consistent-none = record {
  one_each = λ i. omega arith;
  no_zero_key = refl;
  within_room = omega arith;
  held = refl;
  holder = refl;
}
