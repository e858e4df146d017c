-- The effect of the holder's own PERSISTENT RESERVE OUT on its key and on the reservation depends
-- only on these.
use Rattle.std.proofs.Common.{◌≡◌, ◌==◌, ℕ, Bool, true, false, not, ◌&&◌, ◌||◌}
use Rattle.std.proofs.Common.{List}
use Rattle.std.proofs.Common.{length, Option, Some, None, Ok, Err, refl, sym, ap, ◌∙◌}
use Rattle.std.proofs.Common.{arith}
use Rattle.std.specs.Prelude.{if◌then◌else◌, is_some, nat_le}
use Rattle.std.proofs.lemmas.Bool.{and_from, eq-eqb, false≢true, not-false, not-true, or_left}
use Rattle.std.proofs.lemmas.Bool.Decides.{nat_tests}
use Rattle.sg_wire.specs.declared.command.out_action.OutAction.{OutAction}
use Rattle.sg_wire.specs.declared.command.out_action.OutAction.TheVariants.{Register, Reserve}
use Rattle.sg_wire.specs.declared.command.out_action.OutAction.TheVariants.{Release, Clear, Preempt}
use Rattle.sg_wire.specs.declared.command.out_action.OutAction.TheVariants.{PreemptAndAbort}
use Rattle.sg_wire.specs.declared.command.out_action.OutAction.TheVariants.{RegisterAndIgnoreExistingKey}
use Rattle.sg_wire.specs.declared.command.out_action.OutAction.TheVariants.{RegisterAndMove}
use Rattle.sg_wire.specs.declared.command.Class.{Class}
use Rattle.sg_units.specs.Access.{allowed, allows, standing_of}
use Rattle.sg_units.specs.Laws.{OneKeyEach}
use Rattle.sg_units.specs.UnsupportedFlags.{has_unsupported_flag}
use Rattle.sg_units.specs.Registrations.{is_of, is_registered, is_registered_under, is_under}
use Rattle.sg_units.specs.Registrations.{key_of, room_for_registrations}
use Rattle.sg_units.specs.Registrations.{without_initiator, without_key}
use Rattle.sg_units.specs.Reservations.{IsConsistent, has_type, is_holder, taken, while_held}
use Rattle.sg_units.specs.ReservationType.{type_of}
use Rattle.sg_units.specs.ReserveOut.{Outcome, accepts_key, action_outcome}
use Rattle.sg_units.specs.ReserveOut.{outcome}
use Rattle.sg_units.specs.ReserveOut.{preempt_cases, preempted, register_cases}
use Rattle.sg_units.specs.ReserveOut.{register_together_cases, registration_by, release_cases}
use Rattle.sg_units.specs.ReserveOut.{reserve_cases, state_after, with_type}
use Rattle.sg_units.specs.declared.out_fault.OutFault.{OutFault}
use Rattle.sg_wire.specs.declared.out_list.OutList.{OutList}
use Rattle.sg_wire.specs.declared.profile.Rules.{Rules}
use Rattle.sg_units.specs.declared.registrations.Registration.{Registration}
use Rattle.sg_units.specs.declared.reservation.Reservation.{Reservation}
use Rattle.sg_units.specs.declared.reservation_change.ReservationChange.{ReservationChange}
use Rattle.sg_units.specs.declared.reservation_state.ReservationState.{ReservationState}
use Rattle.sg_units.specs.declared.types.ReservationType.{ReservationType}
use Rattle.sg_units.proofs.OutcomeLemmas.{FirstIs, case_or, choice, last_case}
use Rattle.sg_fencing.specs.Fencing.{is_moving}
use Rattle.sg_fencing.specs.Registrants.{held_by}
use Rattle.sg_fencing.proofs.KeyLemmas.{key_of-own_replaced, key_of-unregistered}
use Rattle.sg_fencing.proofs.KeyLemmas.{key_of-filter}
use Rattle.sg_fencing.proofs.ReserveOutLemmas.{alone_in}
use Rattle.sg_fencing.proofs.KeyLemmas.{key_of-without_key, is_registered-key_of}
use Rattle.sg_fencing.proofs.KeyLemmas.{only-key_of, stays_registered, under-key_of}
use Rattle.sg_fencing.proofs.ReserveOutLemmas.{while_held-alone}

-- ---- The key under which i is registered

same-test : (k key : ℕ) (b : Bool) → (b ≡ true → k ≡ key) → (k ≡ key → b ≡ true) → b ≡ (k == key)
same-test k key true f g =
    let e = f refl in
    grind (arith, nat_tests)
same-test k key false f g =
    let no = λ (e : k ≡ key). false≢true (g e) in
    grind (arith, nat_tests)

-- an initiator is registered only under its key
abbrev pub IsUnderAlone : List Registration → (initiator key : ℕ) → Type 0
IsUnderAlone rs i k = (key : ℕ) → is_registered_under rs i key ≡ (k == key)

pub under-alone : OneKeyEach → (state : ReservationState) (i k : ℕ) → IsConsistent state
    → key_of state.registrations i ≡ Some k → IsUnderAlone state.registrations i k
under-alone one state i k c e key =
    let rs = state.registrations in
    same-test k key (is_registered_under rs i key) (only-key_of one state i k c e key)
    (λ same. ap (is_registered_under rs i) (sym same) ∙ under-key_of rs i k e)

-- ---- What is left

-- the key of an initiator and the reservation
abbrev pub Left : Type 0
Left = Option ℕ × Option Reservation

abbrev pub left_of : ReservationState → (initiator : ℕ) → Left
left_of state i = (key_of state.registrations i, state.reservation)

-- an outcome leaves them
pub record Leaves (state : ReservationState) (i : ℕ) (left : Left) (o : Outcome) : Type 0 where
  pub left_is : left_of (state_after state o) i ≡ left

at : (state : ReservationState) (i : ℕ) (left left' : Left) (o : Outcome) → left ≡ left'
    → Leaves state i left' o → Leaves state i left o
at state i left left' o e h = record { left_is = h.left_is ∙ sym e }

not_known : (known b : Bool) → known ≡ true → (not known && b) ≡ true → ⊥
not_known true b e h = false≢true h
not_known false b e h = false≢true e

not_none : (needs zero : Bool) → (needs && false && zero) ≡ true → ⊥
not_none true zero h = false≢true h
not_none false zero h = false≢true h

not_true : (b : Bool) → b ≡ true → not b ≡ true → ⊥
not_true true e h = false≢true h
not_true false e h = false≢true e

or_not_known : (a known b : Bool) → known ≡ true → (a || (not known && b)) ≡ a
or_not_known true known b e = refl
or_not_known false true b e = refl
or_not_known false false b e = absurd (false≢true e)

-- i is registered under k, and the one holder of a reservation
module _ (rules : Rules) (all : List Registration) (kind : ReservationType) (before : ReservationState)
    (i k : ℕ) where
  abbrev state : ReservationState
  state = alone_in all kind i before

  abbrev held : Option Reservation
  held = held_by kind i

  abbrev as_before : Left
  as_before = (Some k, held)

  leaves : (change : ReservationChange) (left : Left) → key_of change.registrations i ≡ left.0
      → change.reservation ≡ left.1 → Leaves state i left (Ok change)
  leaves change left e f = record { left_is = λ d. (e d, f d) }

  refuses : (fault : OutFault) → key_of all i ≡ Some k → Leaves state i as_before (Err fault)
  refuses fault key = record { left_is = λ d. (key d, held) }

  here : key_of all i ≡ Some k → is_registered all i ≡ true
  here key = is_registered-key_of all i ∙ ap is_some key

  abbrev register_left : (sark : ℕ) → Left
  register_left sark = if sark == 0 then (None, None) else (Some sark, held)

  abbrev register_or : Bool → ℕ → Left
  register_or zero sark = if zero then (None, None) else (Some sark, held)

  ended : while_held held (without_initiator all i) ≡ None
  ended =
      let rest = without_initiator all i in
      let gone : is_registered rest i ≡ false =
      is_registered-key_of rest i ∙ ap is_some (key_of-unregistered all i) in
      ap (λ b. if b then held else None) gone

  register_leaves : (list : OutList) → key_of all i ≡ Some k
      → FirstIs (Leaves state i (register_left list.service_action_key)) (register_cases rules state i list)
  unfolding register_cases
  register_leaves list key =
      let sark = list.service_action_key in
      let own = registration_by list i in
      let v = register_left sark in
      let known = is_registered all i in
      let is = here key in
      case_or (Leaves state i v) _ _ (λ h. absurd (not_known known (sark == 0) is h))
      (λ _. case_or (Leaves state i v) _ _
      (λ h. absurd (not_known known (nat_le (room_for_registrations rules) (length all)) is h))
      (λ _. case_or (Leaves state i v) _ _ (λ h. absurd (not_true known is h))
      (λ _. case_or (Leaves state i v) _ _
      (λ other. at state i v (Some sark, held) _ (ap (λ b. register_or b sark) (not-true _ other))
      (leaves _ (Some sark, held) (key_of-own_replaced all own is) refl))
      (λ zero. last_case (Leaves state i v) _ _ refl
      (at state i v (None, None) _ (ap (λ b. register_or b sark) (not-false _ zero))
      (leaves _ (None, None) (key_of-unregistered all i) ended))))))

  -- it is registered already
  together_leaves : (list : OutList) → key_of all i ≡ Some k
      → FirstIs (Leaves state i as_before) (register_together_cases state i list)
  unfolding register_together_cases
  together_leaves list key =
      let known = is_registered all i in
      case_or (Leaves state i as_before) _ _
      (λ idle. absurd (not_known known (list.service_action_key == 0) (here key) idle))
      (λ _. case_or (Leaves state i as_before) _ _ (λ _. refuses _ key)
      (λ new. absurd (false≢true (sym new ∙ here key))))

  reserve_leaves : (new : ReservationType) → key_of all i ≡ Some k
      → FirstIs (Leaves state i as_before) (reserve_cases state i new)
  unfolding reserve_cases
  reserve_leaves new key =
      case_or (Leaves state i as_before) _ _ (λ no. absurd (false≢true no))
      (λ _. case_or (Leaves state i as_before) _ _ (λ _. leaves _ as_before key refl)
      (λ _. last_case (Leaves state i as_before) _ _ refl (refuses _ key)))

  abbrev release_or : Bool → Left
  release_or same = if same then (Some k, None) else as_before

  release_leaves : (new : ReservationType) → key_of all i ≡ Some k
      → FirstIs (Leaves state i (release_or (has_type held new))) (release_cases state i new)
  unfolding release_cases
  release_leaves new key =
      let v = release_or (has_type held new) in
      let holds : is_holder state i ≡ true = and_from _ (i == i) (here key) (eq-eqb i i refl) in
      case_or (Leaves state i v) _ _ (λ h. absurd (not_true (is_holder state i) holds h))
      (λ _. case_or (Leaves state i v) _ _
      (λ other. at state i v as_before _ (ap release_or (not-true _ other)) (refuses _ key))
      (λ same. last_case (Leaves state i v) _ _ refl
      (at state i v (Some k, None) _ (ap release_or (not-false _ same)) (leaves _ (Some k, None) key refl))))

  abbrev taken_left : Option ReservationType → Left
  taken_left None = as_before
  taken_left (Some type) = (Some k, Some (taken type i))

  takes : (type : Option ReservationType) (rest : List Registration) → key_of all i ≡ Some k
      → key_of rest i ≡ Some k → Leaves state i (taken_left type) (preempted held i type rest)
  takes None rest key left = refuses _ key
  takes (Some type) rest key left = leaves _ (Some k, Some (taken type i)) left refl

  abbrev preempt_or : (zero own : Bool) → Option ReservationType → Left
  preempt_or zero own type =
      if zero then as_before else (if own then taken_left type else as_before)

  preempt_leaves : (type : Option ReservationType) (sark : ℕ) → IsUnderAlone all i k
      → key_of all i ≡ Some k
      → FirstIs (Leaves state i (preempt_or (sark == 0) (k == sark) type))
      (preempt_cases rules state i type sark)
  unfolding preempt_cases
  preempt_leaves type sark one key =
      let v = preempt_or (sark == 0) (k == sark) type in
      let stay = λ (r : Registration). is_of i r || not (is_under sark r) in
      let under = one sark in
      case_or (Leaves state i v) _ _
      (λ zero. at state i v as_before _ (ap (λ b. preempt_or b (k == sark) type) zero) (refuses _ key))
      (λ no. case_or (Leaves state i v) _ _
      (λ none. absurd (not_none rules.preempt_needs_a_key (sark == 0) none))
      (λ _. case_or (Leaves state i v) _ _
      (λ own. at state i v (taken_left type) _
      (ap (λ b. preempt_or b (k == sark) type) no
      ∙ ap (λ b. preempt_or false b type) (sym under ∙ own))
      (takes type _ key
      (key_of-filter stay i (λ r e. or_left (is_of i r) (not (is_under sark r)) e) all ∙ key)))
      (λ other.
      let before : v ≡ as_before =
      ap (λ b. preempt_or b (k == sark) type) no
      ∙ ap (λ b. preempt_or false b type) (sym under ∙ other) in
      case_or (Leaves state i v) _ _ (λ none. absurd (false≢true none))
      (λ _. case_or (Leaves state i v) _ _ (λ _. at state i v as_before _ before (refuses _ key))
      (λ _. last_case (Leaves state i v) _ _ refl
      (let gone = key_of-without_key all i sark other in
      let left = stays_registered all (without_key all sark) i gone (here key) in
      at state i v as_before _ before
      (leaves _ as_before (gone ∙ key) (while_held-alone kind i _ left))))))))

  abbrev typed_left : Option ReservationType → (ReservationType → Left) → Left
  typed_left None left = as_before
  typed_left (Some type) left = left type

  typed : (type : Option ReservationType) (f : ReservationType → Outcome)
      (left : ReservationType → Left) → key_of all i ≡ Some k
      → ((type : ReservationType) → Leaves state i (left type) (f type))
      → Leaves state i (typed_left type left) (with_type type f)
  typed None f left key h = refuses _ key
  typed (Some type) f left key h = h type

  abbrev together_or : Bool → ℕ → Left
  together_or together sark = if together then as_before else register_left sark

  abbrev action_left : OutAction → Option ReservationType → OutList → Left
  action_left Register type list = together_or list.spec_i_pt list.service_action_key
  action_left Reserve type list = typed_left type (λ new. as_before)
  action_left Release type list = typed_left type (λ new. release_or (has_type held new))
  action_left Clear type list = (None, None)
  action_left Preempt type list =
      preempt_or (list.service_action_key == 0) (k == list.service_action_key) type
  action_left PreemptAndAbort type list =
      preempt_or (list.service_action_key == 0) (k == list.service_action_key) type
  action_left RegisterAndIgnoreExistingKey type list = register_left list.service_action_key
  action_left RegisterAndMove type list = as_before

  action_leaves : (action : OutAction) (type : Option ReservationType) (list : OutList)
      → is_moving action ≡ false → IsUnderAlone all i k → key_of all i ≡ Some k
      → Leaves state i (action_left action type list) (action_outcome rules state i action type list)
  action_leaves Register type list keeps one key =
      let sark = list.service_action_key in
      let v = together_or list.spec_i_pt sark in
      choice (Leaves state i v) list.spec_i_pt _ _
      (λ set. at state i v as_before _ (ap (λ b. together_or b sark) set) (together_leaves list key).first)
      (λ alone. at state i v (register_left sark) _ (ap (λ b. together_or b sark) alone)
      (register_leaves list key).first)
  action_leaves Reserve type list keeps one key =
      typed type _ (λ new. as_before) key (λ new. (reserve_leaves new key).first)
  action_leaves Release None list keeps one key =
      choice (Leaves state i as_before) (is_holder state i) _ _ (λ _. refuses _ key)
      (λ _. leaves _ as_before key refl)
  action_leaves Release (Some type) list keeps one key = (release_leaves type key).first
  action_leaves Clear type list keeps one key = leaves _ (None, None) refl refl
  action_leaves Preempt type list keeps one key =
      (preempt_leaves type list.service_action_key one key).first
  action_leaves PreemptAndAbort type list keeps one key =
      (preempt_leaves type list.service_action_key one key).first
  action_leaves RegisterAndIgnoreExistingKey type list keeps one key = (register_leaves list key).first
  action_leaves RegisterAndMove type list keeps one key = absurd (false≢true (sym keeps))

  abbrev accepts : OutAction → (key : ℕ) → Bool
  accepts RegisterAndIgnoreExistingKey key = true
  accepts action key = k == key

  accepts-key : (action : OutAction) (key : ℕ) → IsUnderAlone all i k → key_of all i ≡ Some k
      → accepts_key all i action key ≡ accepts action key
  accepts-key Register key one is =
      or_not_known (is_registered_under all i key) (is_registered all i) (key == 0) (here is)
      ∙ one key
  accepts-key Reserve key one is = one key
  accepts-key Release key one is = one key
  accepts-key Clear key one is = one key
  accepts-key Preempt key one is = one key
  accepts-key PreemptAndAbort key one is = one key
  accepts-key RegisterAndMove key one is = one key
  accepts-key RegisterAndIgnoreExistingKey key one is = refl

  abbrev left_or : (flag refused : Bool) → Left → Left
  left_or flag refused left = if flag then as_before else (if refused then as_before else left)

  -- what a command leaves of them
  abbrev left_after : OutAction → (scope_type : ℕ) → OutList → Left
  left_after action scope_type list =
      left_or (has_unsupported_flag rules action list) (not (accepts action list.reservation_key))
      (action_left action (type_of scope_type) list)

  outcome_leaves_own : (action : OutAction) (scope_type : ℕ) (list : OutList)
      → is_moving action ≡ false → IsUnderAlone all i k → key_of all i ≡ Some k
      → Leaves state i (left_after action scope_type list)
      (outcome rules state i action scope_type list)
  unfolding outcome
  outcome_leaves_own action scope_type list keeps one key =
      let v = left_after action scope_type list in
      let flag = has_unsupported_flag rules action list in
      let left = action_left action (type_of scope_type) list in
      let not_own = not (accepts action list.reservation_key) in
      let is_own = ap not (accepts-key action list.reservation_key one key) in
      choice (Leaves state i v) flag _ _
      (λ is. at state i v as_before _ (ap (λ b. left_or b not_own left) is) (refuses _ key))
      (λ no. choice (Leaves state i v) (not (accepts_key all i action list.reservation_key)) _ _
      (λ refused. at state i v as_before _
      (ap (λ b. left_or b not_own left) no ∙ ap (λ b. left_or false b left) (sym is_own ∙ refused))
      (refuses _ key))
      (λ accepted. at state i v left _
      (ap (λ b. left_or b not_own left) no ∙ ap (λ b. left_or false b left) (sym is_own ∙ accepted))
      (action_leaves action (type_of scope_type) list keeps one key)))

-- So its effect on two tables that have the same key for i is the same, unless i gives the reservation
-- away.
pub own_agrees : (rules : Rules) (all rest : List Registration) (kind : ReservationType)
    (first second : ReservationState) (i k : ℕ) (action : OutAction) (scope_type : ℕ) (list : OutList)
    → is_moving action ≡ false → IsUnderAlone all i k → key_of all i ≡ Some k
    → IsUnderAlone rest i k → key_of rest i ≡ Some k →
    (let a = alone_in all kind i first in
    let b = alone_in rest kind i second in
    left_of (state_after a (outcome rules a i action scope_type list)) i
    ≡ left_of (state_after b (outcome rules b i action scope_type list)) i)
own_agrees rules all rest kind first second i k action scope_type list keeps one key one' key' =
    (outcome_leaves_own rules all kind first i k action scope_type list keeps one key).left_is
    ∙ sym (outcome_leaves_own rules rest kind second i k action scope_type list keeps one' key').left_is

-- ---- Access

-- The reservation, and whether i is registered, decide what i is allowed.
standing-by : (held : Option Reservation) (all rest : List Registration) (first second : ReservationState)
    (i : ℕ)
    → is_registered all i ≡ is_registered rest i
    → standing_of (record first { registrations = all; reservation = held }) i
    ≡ standing_of (record second { registrations = rest; reservation = held }) i
standing-by None all rest first second i e = cc
standing-by (Some reservation) all rest first second i e = cc

pub allows-same : (first second : ReservationState) (i : ℕ) (class : Class)
    → key_of first.registrations i ≡ key_of second.registrations i
    → first.reservation ≡ second.reservation → allows first i class ≡ allows second i class
allows-same first second i class key reservation =
    let registered : is_registered first.registrations i ≡ is_registered second.registrations i =
    is_registered-key_of first.registrations i
    ∙ (ap is_some key ∙ sym (is_registered-key_of second.registrations i)) in
    let moved : ReservationState = record second { reservation = first.reservation } in
    let to : moved ≡ second = λ d. record second { reservation = reservation d } in
    ap (λ s. allowed first.reservation s class)
    (standing-by first.reservation first.registrations second.registrations first second i
    registered)
    ∙ ap (λ (r : ReservationState). allows r i class) to
