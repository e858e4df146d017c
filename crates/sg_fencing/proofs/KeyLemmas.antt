-- The key of an initiator after PERSISTENT RESERVE OUT has changed registrations.
use Rattle.std.proofs.Common.{◌≡◌, ◌==◌, ℕ, Bool, true, false, cond, not, ◌&&◌, ◌||◌, List}
use Rattle.std.proofs.Common.{[], ◌∷◌, filter, Option, Some, None, refl, sym, ap, ◌∙◌, subst, arith}
use Rattle.std.specs.Prelude.{find, if◌then◌else◌, is_some, option_map}
use Rattle.std.specs.List.{fold, list_any}
use Rattle.std.proofs.lemmas.Bool.{cond_both, eq-eqb, eqb-true, false≢true, or_from, or_parts, or_right}
use Rattle.std.proofs.lemmas.Bool.Decides.{nat_tests}
use Rattle.sg_units.specs.Laws.{OneKeyEach}
use Rattle.sg_units.specs.Registrations.{is_of, is_registered, is_registered_under, is_under}
use Rattle.sg_units.specs.Registrations.{key_of, with_registration, with_replaced}
use Rattle.sg_units.specs.Registrations.{without_initiator, without_key}
use Rattle.sg_units.specs.Reservations.{IsConsistent}
use Rattle.sg_units.specs.ReserveOut.{registered_together, registered_too, registration_by}
use Rattle.sg_wire.specs.declared.out_list.OutList.{OutList}
use Rattle.sg_units.specs.declared.registrations.Registration.{Registration}
use Rattle.sg_units.specs.declared.reservation_state.ReservationState.{ReservationState}
use Rattle.sg_fencing.specs.Registrants.{is_named}

-- ---- The key of an initiator

pub key_of-cons : (r : Registration) (rs : List Registration) (i : ℕ)
    → key_of (r ∷ rs) i ≡ cond (is_of i r) (Some r.key) (key_of rs i)
key_of-cons r rs i = split (is_of i r)
  where
    split : (b : Bool)
        → option_map (λ (q : Registration). q.key) (cond b (Some r) (find (is_of i) rs))
        ≡ cond b (Some r.key) (key_of rs i)
    split true = refl
    split false = refl

pub key_of-push : (rs : List Registration) (i : ℕ) (new : Registration)
    → (new.initiator == i) ≡ false → key_of (with_registration rs new) i ≡ key_of rs i
key_of-push [] i new h = key_of-cons new [] i ∙ ap (λ b. cond b (Some new.key) None) h
key_of-push (r ∷ rs) i new h =
    key_of-cons r (with_registration rs new) i
    ∙ (ap (cond (is_of i r) (Some r.key)) (key_of-push rs i new h) ∙ sym (key_of-cons r rs i))

-- a filter that keeps i's registrations
filter_key : (r : Registration) (i : ℕ) (b : Bool) (ys : List Registration) (was : Option ℕ)
    → (is_of i r ≡ true → b ≡ true) → key_of ys i ≡ was
    → key_of (cond b (r ∷ ys) ys) i ≡ cond (is_of i r) (Some r.key) was
filter_key r i true ys was f e = key_of-cons r ys i ∙ ap (cond (is_of i r) (Some r.key)) e
filter_key r i false ys was f e = e ∙ sym (other (is_of i r) f)
  where
    other : (c : Bool) → (c ≡ true → false ≡ true) → cond c (Some r.key) was ≡ was
    other true g = absurd (false≢true (g refl))
    other false g = refl

pub key_of-filter : (p : Registration → Bool) (i : ℕ)
    → ((r : Registration) → is_of i r ≡ true → p r ≡ true) → (rs : List Registration)
    → key_of (filter p rs) i ≡ key_of rs i
key_of-filter p i f [] = refl
key_of-filter p i f (r ∷ rs) =
    filter_key r i (p r) (filter p rs) (key_of rs i) (f r) (key_of-filter p i f rs)
    ∙ sym (key_of-cons r rs i)

apart : (r : Registration) (i j : ℕ) → (j == i) ≡ false → is_of i r ≡ true
    → not (is_of j r) ≡ true
apart r i j h e = grind (arith, nat_tests)

pub key_of-without : (rs : List Registration) (i j : ℕ) → (j == i) ≡ false
    → key_of (without_initiator rs j) i ≡ key_of rs i
key_of-without rs i j h = key_of-filter (λ r. not (is_of j r)) i (λ r e. apart r i j h e) rs

-- i is not registered under the key
not_under : (a b c : Bool) → ((a && b) || c) ≡ false → a ≡ true → not b ≡ true
not_under true true c h e = sym h
not_under true false c h e = refl
not_under false b c h e = absurd (false≢true e)

pub key_of-without_key : (rs : List Registration) (i key : ℕ) → is_registered_under rs i key ≡ false
    → key_of (without_key rs key) i ≡ key_of rs i
key_of-without_key [] i key h = refl
key_of-without_key (r ∷ rs) i key h =
    filter_key r i (not (is_under key r)) (without_key rs key) (key_of rs i)
    (not_under (is_of i r) (is_under key r) (is_registered_under rs i key) h)
    (key_of-without_key rs i key
    (or_parts (is_of i r && is_under key r) (is_registered_under rs i key) h).1)
    ∙ sym (key_of-cons r rs i)

replaced_head : (r new : Registration) (i : ℕ) (b : Bool) → (r.initiator == new.initiator) ≡ b
    → (new.initiator == i) ≡ false → (was : Option ℕ)
    → cond (is_of i (cond b new r)) (Some (cond b new r).key) was ≡ cond (is_of i r) (Some r.key) was
replaced_head r new i true e h was =
    let no : is_of i r ≡ false = grind (arith, nat_tests) in
    ap (λ b. cond b (Some new.key) was) h ∙ sym (ap (λ b. cond b (Some r.key) was) no)
replaced_head r new i false e h was = refl

pub key_of-replaced : (rs : List Registration) (i : ℕ) (new : Registration)
    → (new.initiator == i) ≡ false → key_of (with_replaced rs new) i ≡ key_of rs i
key_of-replaced [] i new h = refl
key_of-replaced (r ∷ rs) i new h =
    let q : Registration = if is_of new.initiator r then new else r in
    key_of-cons q (with_replaced rs new) i
    ∙ (ap (cond (is_of i q) (Some q.key)) (key_of-replaced rs i new h)
    ∙ (replaced_head r new i (is_of new.initiator r) refl h (key_of rs i) ∙ sym (key_of-cons r rs i)))

or_some : (a b : Bool) (k : ℕ) (o : Option ℕ) → b ≡ is_some o
    → (a || b) ≡ is_some (cond a (Some k) o)
or_some true b k o e = refl
or_some false b k o e = e

pub is_registered-key_of : (rs : List Registration) (i : ℕ) → is_registered rs i ≡ is_some (key_of rs i)
is_registered-key_of [] i = refl
is_registered-key_of (r ∷ rs) i =
    or_some (is_of i r) (is_registered rs i) r.key (key_of rs i) (is_registered-key_of rs i)
    ∙ ap is_some (sym (key_of-cons r rs i))

pub stays_registered : (all rest : List Registration) (i : ℕ) → key_of rest i ≡ key_of all i
    → is_registered all i ≡ true → is_registered rest i ≡ true
stays_registered all rest i e h =
    is_registered-key_of rest i ∙ (ap is_some e ∙ (sym (is_registered-key_of all i) ∙ h))

under-first : (r : Registration) (rs : List Registration) (i k : ℕ) (b : Bool)
    → (key_of rs i ≡ Some k → is_registered_under rs i k ≡ true)
    → cond b (Some r.key) (key_of rs i) ≡ Some k
    → ((b && is_under k r) || is_registered_under rs i k) ≡ true
under-first r rs i k true rest e =
    let same : r.key ≡ k = cc in
    grind (arith, nat_tests)
under-first r rs i k false rest e = rest e

-- an initiator is registered under its key
pub under-key_of : (rs : List Registration) (i k : ℕ) → key_of rs i ≡ Some k
    → is_registered_under rs i k ≡ true
under-key_of [] i k e = cc
under-key_of (r ∷ rs) i k e =
    under-first r rs i k (is_of i r) (under-key_of rs i k) (sym (key_of-cons r rs i) ∙ e)

-- and under no other
pub only-key_of : OneKeyEach → (state : ReservationState) (i k : ℕ) → IsConsistent state
    → key_of state.registrations i ≡ Some k
    → (key : ℕ) → is_registered_under state.registrations i key ≡ true → k ≡ key
only-key_of one state i k c e key h =
    one state i k key c (under-key_of state.registrations i k e) h

-- ---- The own key

unregistered-first : (r : Registration) (i : ℕ) (b : Bool) (ys : List Registration) → is_of i r ≡ b
    → key_of ys i ≡ None → key_of (cond (not b) (r ∷ ys) ys) i ≡ None
unregistered-first r i true ys e h = h
unregistered-first r i false ys e h =
    key_of-cons r ys i ∙ (ap (λ b. cond b (Some r.key) (key_of ys i)) e ∙ h)

pub key_of-unregistered : (rs : List Registration) (i : ℕ) → key_of (without_initiator rs i) i ≡ None
key_of-unregistered [] i = refl
key_of-unregistered (r ∷ rs) i =
    unregistered-first r i (is_of i r) (without_initiator rs i) refl (key_of-unregistered rs i)

replaced-first : (r new : Registration) (rs : List Registration) (b : Bool)
    → is_of new.initiator r ≡ b → is_of new.initiator new ≡ true
    → (is_registered rs new.initiator ≡ true
    → key_of (with_replaced rs new) new.initiator ≡ Some new.key)
    → (b || is_registered rs new.initiator) ≡ true
    → key_of (cond b new r ∷ with_replaced rs new) new.initiator ≡ Some new.key
replaced-first r new rs true e self rest h =
    key_of-cons new (with_replaced rs new) new.initiator
    ∙ ap (λ b. cond b (Some new.key) (key_of (with_replaced rs new) new.initiator)) self
replaced-first r new rs false e self rest h =
    key_of-cons r (with_replaced rs new) new.initiator
    ∙ (ap (λ b. cond b (Some r.key) (key_of (with_replaced rs new) new.initiator)) e ∙ rest h)

pub key_of-own_replaced : (rs : List Registration) (new : Registration)
    → is_registered rs new.initiator ≡ true
    → key_of (with_replaced rs new) new.initiator ≡ Some new.key
key_of-own_replaced [] new h = absurd (false≢true h)
key_of-own_replaced (r ∷ rs) new h =
    replaced-first r new rs (is_of new.initiator r) refl (eq-eqb new.initiator new.initiator refl)
    (key_of-own_replaced rs new) h

-- ---- Others that are registered together with the caller

pub pushed-known : (rs : List Registration) (new : Registration)
    → is_registered (with_registration rs new) new.initiator ≡ true
pushed-known [] new = ap (λ b. b || false) (eq-eqb new.initiator new.initiator refl)
pushed-known (r ∷ rs) new = or_right (is_of new.initiator r) _ (pushed-known rs new)

-- one that is registered is another than one that is not
other-known : (rs : List Registration) (i j : ℕ) → is_registered rs i ≡ true
    → is_registered rs j ≡ false → (same : Bool) → (j == i) ≡ same → (j == i) ≡ false
other-known rs i j known unknown false e = e
other-known rs i j known unknown true e =
    absurd (false≢true (sym unknown ∙ (ap (is_registered rs) (eqb-true j i e) ∙ known)))

module _ (list : OutList) where
  too-known : (rs : List Registration) (named : Option ℕ) (i : ℕ) → is_registered rs i ≡ true
      → key_of (registered_too list rs named) i ≡ key_of rs i
  too-known rs None i known = refl
  too-known rs (Some j) i known =
      cond_both (is_registered rs j) rs (with_registration rs (registration_by list j))
      (λ all. key_of all i ≡ key_of rs i) (λ _. refl)
      (λ unknown. key_of-push rs i (registration_by list j) (other-known rs i j known unknown (j == i) refl))

  pub each-known : (named : List (Option ℕ)) (rs : List Registration) (i : ℕ)
      → is_registered rs i ≡ true → key_of (fold (registered_too list) rs named) i ≡ key_of rs i
  each-known [] rs i known = refl
  each-known (one ∷ named) rs i known =
      let next = registered_too list rs one in
      let same = too-known rs one i known in
      each-known named next i (stays_registered rs next i same known) ∙ same

  too-other : (rs : List Registration) (named : Option ℕ) (i : ℕ) → is_named i named ≡ false
      → key_of (registered_too list rs named) i ≡ key_of rs i
  too-other rs None i other = refl
  too-other rs (Some j) i other =
      cond_both (is_registered rs j) rs (with_registration rs (registration_by list j))
      (λ all. key_of all i ≡ key_of rs i) (λ _. refl)
      (λ _. key_of-push rs i (registration_by list j) other)

  each-other : (named : List (Option ℕ)) (rs : List Registration) (i : ℕ)
      → list_any (is_named i) named ≡ false
      → key_of (fold (registered_too list) rs named) i ≡ key_of rs i
  each-other [] rs i none = refl
  each-other (one ∷ named) rs i none =
      let parts = or_parts (is_named i one) (list_any (is_named i) named) none in
      each-other named (registered_too list rs one) i parts.1 ∙ too-other rs one i parts.0

  caller-too : (rs : List Registration) (j : ℕ) → is_registered (registered_too list rs (Some j)) j ≡ true
  caller-too rs j =
      cond_both (is_registered rs j) rs (with_registration rs (registration_by list j))
      (λ all. is_registered all j ≡ true) (λ known. known)
      (λ _. pushed-known rs (registration_by list j))

  module _ (rs : List Registration) (i j : ℕ) where
    -- the caller is registered afterwards
    pub together-caller : is_registered (registered_together rs j list) j ≡ true
    unfolding registered_together
    together-caller =
        let first = registered_too list rs (Some j) in
        let known = caller-too rs j in
        stays_registered first (fold (registered_too list) first list.others) j
        (each-known list.others first j known) known

    -- the key of another stays if it is registered, or is not named
    pub together-known : is_registered rs i ≡ true
        → key_of (registered_together rs j list) i ≡ key_of rs i
    unfolding registered_together
    together-known known = each-known (Some j ∷ list.others) rs i known

    pub together-other : (j == i) ≡ false → list_any (is_named i) list.others ≡ false
        → key_of (registered_together rs j list) i ≡ key_of rs i
    unfolding registered_together
    together-other other none =
        each-other (Some j ∷ list.others) rs i
        (or_from (j == i) (list_any (is_named i) list.others) other none)

-- ---- One key for all that are registered together

pub own-pushed : (rs : List Registration) (new : Registration) → is_registered rs new.initiator ≡ false
    → key_of (with_registration rs new) new.initiator ≡ Some new.key
own-pushed [] new unknown =
    key_of-cons new [] new.initiator
    ∙ ap (λ b. cond b (Some new.key) None) (eq-eqb new.initiator new.initiator refl)
own-pushed (r ∷ rs) new unknown =
    let parts = or_parts (is_of new.initiator r) (is_registered rs new.initiator) unknown in
    key_of-cons r (with_registration rs new) new.initiator
    ∙ (ap (λ b. cond b (Some r.key) (key_of (with_registration rs new) new.initiator)) parts.0
    ∙ own-pushed rs new parts.1)

-- i is registered under the key of the list, if at all
abbrev HasOneKey : OutList → (i : ℕ) → List Registration → Type 0
HasOneKey list i rs = is_registered rs i ≡ true → key_of rs i ≡ Some list.service_action_key

module _ (list : OutList) (i : ℕ) where
  pushed-one : (rs : List Registration) (j : ℕ) → is_registered rs j ≡ false → (same : Bool)
      → (j == i) ≡ same → HasOneKey list i rs
      → HasOneKey list i (with_registration rs (registration_by list j))
  pushed-one rs j unknown true e one known =
      subst (λ k. key_of (with_registration rs (registration_by list j)) k ≡ Some list.service_action_key)
      (eqb-true j i e) (own-pushed rs (registration_by list j) unknown)
  pushed-one rs j unknown false e one known =
      let new = registration_by list j in
      let same = key_of-push rs i new e in
      same ∙ one (stays_registered (with_registration rs new) rs i (sym same) known)

  too-one : (rs : List Registration) (named : Option ℕ) → HasOneKey list i rs
      → HasOneKey list i (registered_too list rs named)
  too-one rs None one = one
  too-one rs (Some j) one =
      cond_both (is_registered rs j) rs (with_registration rs (registration_by list j))
      (HasOneKey list i) (λ _. one) (λ unknown. pushed-one rs j unknown (j == i) refl one)

  each-one : (named : List (Option ℕ)) (rs : List Registration) → HasOneKey list i rs
      → HasOneKey list i (fold (registered_too list) rs named)
  each-one [] rs one = one
  each-one (next ∷ named) rs one = each-one named (registered_too list rs next) (too-one rs next one)

  -- one that was not registered has the key of the list
  pub together-one : (rs : List Registration) (j : ℕ) → is_registered rs i ≡ false
      → HasOneKey list i (registered_together rs j list)
  unfolding registered_together
  together-one rs j unknown =
      each-one (Some j ∷ list.others) rs (λ known. absurd (false≢true (sym unknown ∙ known)))
