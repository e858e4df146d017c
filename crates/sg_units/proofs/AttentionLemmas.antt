-- The queues of unit attention conditions.
use Rattle.std.proofs.Common.{◌≡◌, ◌<◌, ◌≤◌, ◌+◌, ◌⊎◌, inl, inr, ◌==◌, ℕ, zero, suc, Bool, ◌||◌}
use Rattle.std.proofs.Common.{true, false, not, cond, List, [], ◌∷◌, ◌++◌, length, map, drop, get_or}
use Rattle.std.proofs.Common.{set, Option, Some, None, refl, sym, ap, ◌∙◌, subst, arith, replicate}
use Rattle.std.specs.Prelude.{if◌then◌else◌, filter, is_some}
use Rattle.std.specs.List.{list_any, range_with_len}
use Rattle.std.proofs.lemmas.Bool.{cases_lt, false≢true, or_parts, or_right}
use Rattle.std.proofs.lemmas.List.Folds.{list_any-append}
use Rattle.std.proofs.lemmas.List.{get_or-set_other, get_or-set_same, length-set, map-set}
use Rattle.std.proofs.lemmas.List.FromFn.{fill_by_all}
use Rattle.std.proofs.lemmas.Bool.Decides.{nat_tests}
use Rattle.arrayvec.specs.ArrayVec.{ArrayVec}
use Rattle.sg_wire.specs.Initiator.{initiator_count}
use Rattle.sg_units.specs.Attentions.{AreDistinct, ArePending, AreQueues, IsNotAmong, IsQueue}
use Rattle.sg_units.specs.Attentions.{Pending, covers, is_condition, is_covered, is_higher, is_pending}
use Rattle.sg_units.specs.Attentions.{pending_for, raised}
use Rattle.sg_units.specs.Laws.{ReportsFirst}
use Rattle.sg_units.specs.PowerOn.{power_on_pending}
use Rattle.sg_units.specs.Attentions.{with_condition, with_optional, without_condition}
use Rattle.sg_units.specs.Attentions.{without_oldest, without_resets}
use Rattle.sg_units.specs.Raised.{Conditions, queue_after, raised_for_each}
use Rattle.sg_units.specs.UnitAttention.{is_reset, number_of}
use Rattle.sg_units.specs.UnitAttention.{reset_precedence}
use Rattle.sg_units.specs.declared.unit_attention.UnitAttention.{UnitAttention}
use Rattle.sg_units.specs.declared.unit_attention.UnitAttention.TheVariants.{PowerOn}
use Rattle.sg_units.proofs.ConditionLemmas.{at_most_each, not_covered, same_condition, with_reset}

abbrev items_of : ArrayVec UnitAttention → List UnitAttention
items_of v = v.items

-- ---- A queue that changes

not_among-push : (d : UnitAttention) (ds : List UnitAttention) (c : UnitAttention) → IsNotAmong d ds
    → (d ≡ c → ⊥) → IsNotAmong d (ds ++ c ∷ [])
not_among-push d [] c h n = (n, tt)
not_among-push d (e ∷ es) c h n = (h.0, not_among-push d es c h.1 n)

distinct-push : (queue : List UnitAttention) (c : UnitAttention) → IsNotAmong c queue
    → AreDistinct queue → AreDistinct (queue ++ c ∷ [])
distinct-push [] c n h = (tt, tt)
distinct-push (d ∷ ds) c n h =
    (not_among-push d ds c h.0 (λ e. n.0 (sym e)), distinct-push ds c n.1 h.1)

not_among-filter : (test : UnitAttention → Bool) (d : UnitAttention) (ds : List UnitAttention)
    → IsNotAmong d ds → IsNotAmong d (filter test ds)
not_among-filter test d [] h = tt
not_among-filter test d (e ∷ es) h = by_test (test e) (not_among-filter test d es h.1)
  where
    by_test : (b : Bool) → IsNotAmong d (filter test es)
        → IsNotAmong d (cond b (e ∷ filter test es) (filter test es))
    by_test true later = (h.0, later)
    by_test false later = later

distinct-filter : (test : UnitAttention → Bool) (queue : List UnitAttention) → AreDistinct queue
    → AreDistinct (filter test queue)
distinct-filter test [] h = tt
distinct-filter test (d ∷ ds) h = by_test (test d) (distinct-filter test ds h.1)
  where
    by_test : (b : Bool) → AreDistinct (filter test ds)
        → AreDistinct (cond b (d ∷ filter test ds) (filter test ds))
    by_test true later = (not_among-filter test d ds h.0, later)
    by_test false later = later

-- the first condition aside, none is of a reset
abbrev ResetFirst : List UnitAttention → Type 0
ResetFirst queue = list_any is_reset (drop 1 queue) ≡ false

resets-without : (queue : List UnitAttention) → list_any is_reset (without_resets queue) ≡ false
resets-without [] = refl
resets-without (d ∷ ds) = by_test (is_reset d) refl (resets-without ds)
  where
    by_test : (b : Bool) → is_reset d ≡ b → list_any is_reset (without_resets ds) ≡ false
        → list_any is_reset (cond (not b) (d ∷ without_resets ds) (without_resets ds)) ≡ false
    by_test true e later = later
    by_test false e later = ap (λ b. b || list_any is_reset (without_resets ds)) e ∙ later

reset_first-push : (queue : List UnitAttention) (c : UnitAttention) → is_reset c ≡ false
    → ResetFirst queue → ResetFirst (queue ++ c ∷ [])
reset_first-push [] c n h = refl
reset_first-push (d ∷ ds) c n h =
    list_any-append is_reset ds (c ∷ [])
    ∙ (ap (λ b. b || (is_reset c || false)) h ∙ ap (λ b. b || false) n)

made-queue : (queue : List UnitAttention) → AreDistinct queue → ResetFirst queue → IsQueue queue
made-queue queue h r =
    record { limit = at_most_each queue h; distinct = h; reset_first = r }

by_reset : (queue : List UnitAttention) (c : UnitAttention) (b : Bool) → is_reset c ≡ b
    → IsNotAmong c queue → IsQueue queue
    → IsQueue (if b then c ∷ without_resets queue else queue ++ c ∷ [])
by_reset queue c true e n q =
    let test = λ (d : UnitAttention). not (is_reset d) in
    made-queue _ (not_among-filter test c queue n, distinct-filter test queue q.distinct)
    (resets-without queue)
by_reset queue c false e n q =
    made-queue _ (distinct-push queue c n q.distinct) (reset_first-push queue c e q.reset_first)

by_covered : (queue : List UnitAttention) (c : UnitAttention) (b : Bool) → is_covered queue c ≡ b
    → IsQueue queue → IsQueue (if b then queue
    else (if is_reset c then c ∷ without_resets queue else queue ++ c ∷ []))
by_covered queue c true e q = q
by_covered queue c false e q = by_reset queue c (is_reset c) refl (not_covered queue c e) q

pub IsQueue-with_optional : (queue : List UnitAttention) (condition : Option UnitAttention)
    → IsQueue queue → IsQueue (with_optional queue condition)
IsQueue-with_optional queue None q = q
IsQueue-with_optional queue (Some c) q = by_covered queue c (is_covered queue c) refl q

pub IsQueue-drop : (queue : List UnitAttention) → IsQueue queue → IsQueue (drop 1 queue)
IsQueue-drop [] q = q
IsQueue-drop (first ∷ rest) q =
    let m = q.limit in
    record {
      limit = omega arith;
      distinct = q.distinct.1;
      reset_first = later-reset_first rest q.reset_first;
    }
  where
    later-reset_first : (queue : List UnitAttention) → list_any is_reset queue ≡ false
        → ResetFirst queue
    later-reset_first [] h = refl
    later-reset_first (d ∷ ds) h = (or_parts (is_reset d) (list_any is_reset ds) h).1

-- a queue from which conditions are taken away
none-filter : (test : UnitAttention → Bool) (queue : List UnitAttention)
    → list_any is_reset queue ≡ false → list_any is_reset (filter test queue) ≡ false
none-filter test [] h = refl
none-filter test (d ∷ ds) h =
    let parts = or_parts (is_reset d) (list_any is_reset ds) h in
    by_test (test d) parts.0 (none-filter test ds parts.1)
  where
    by_test : (b : Bool) → is_reset d ≡ false → list_any is_reset (filter test ds) ≡ false
        → list_any is_reset (cond b (d ∷ filter test ds) (filter test ds)) ≡ false
    by_test true first later = ap (λ r. r || list_any is_reset (filter test ds)) first ∙ later
    by_test false first later = later

reset_first-filter : (test : UnitAttention → Bool) (queue : List UnitAttention) → ResetFirst queue
    → ResetFirst (filter test queue)
reset_first-filter test [] h = refl
reset_first-filter test (d ∷ ds) h = by_test (test d)
  where
    dropped : (queue : List UnitAttention) → list_any is_reset queue ≡ false → ResetFirst queue
    dropped [] h = refl
    dropped (e ∷ es) h = (or_parts (is_reset e) (list_any is_reset es) h).1

    by_test : (b : Bool) → ResetFirst (cond b (d ∷ filter test ds) (filter test ds))
    by_test true = none-filter test ds h
    by_test false = dropped (filter test ds) (none-filter test ds h)

pub IsQueue-filter : (test : UnitAttention → Bool) (queue : List UnitAttention) → IsQueue queue
    → IsQueue (filter test queue)
IsQueue-filter test queue q =
    made-queue (filter test queue) (distinct-filter test queue q.distinct)
    (reset_first-filter test queue q.reset_first)

-- ---- What is reported

-- what covers a reset is a reset
covers-reset : (d c : UnitAttention) → covers d c ≡ true → is_reset c ≡ true → is_reset d ≡ true
covers-reset d c e r = by_same (number_of d == number_of c) refl e
  where
    by_higher : (p q : Option ℕ) → is_higher p q ≡ true → is_some p ≡ true
    by_higher (Some p) q h = refl
    by_higher None q h = absurd (false≢true h)

    by_same : (b : Bool) → (number_of d == number_of c) ≡ b
        → (b || is_higher (reset_precedence d) (reset_precedence c)) ≡ true → is_reset d ≡ true
    by_same true k h =
        let same : d ≡ c = same_condition d c (grind (arith, nat_tests)) in
        ap is_reset same ∙ r
    by_same false k h = by_higher (reset_precedence d) (reset_precedence c) h

covered-reset : (queue : List UnitAttention) (c : UnitAttention) → is_covered queue c ≡ true
    → is_reset c ≡ true → list_any is_reset queue ≡ true
covered-reset [] c e r = absurd (false≢true e)
covered-reset (d ∷ ds) c e r = by_first (covers d c) refl e (λ k. covered-reset ds c k r)
  where
    by_first : (b : Bool) → covers d c ≡ b → (b || is_covered ds c) ≡ true
        → (is_covered ds c ≡ true → list_any is_reset ds ≡ true)
        → (is_reset d || list_any is_reset ds) ≡ true
    by_first true k h later = ap (λ b. b || list_any is_reset ds) (covers-reset d c k r)
    by_first false k h later = or_right (is_reset d) (list_any is_reset ds) (later h)

pub covers-itself : (c : UnitAttention) → covers c c ≡ true
covers-itself c =
    let same : (number_of c == number_of c) ≡ true = grind (arith, nat_tests) in
    ap (λ b. b || is_higher (reset_precedence c) (reset_precedence c)) same

first-covers : (queue : List UnitAttention) (c : UnitAttention) → is_covered queue c ≡ true
    → is_reset c ≡ true → ResetFirst queue → ReportsFirst queue c
first-covers [] c e r h = absurd (false≢true e)
first-covers (d ∷ ds) c e r h = by_first (covers d c) refl e
  where
    by_first : (b : Bool) → covers d c ≡ b → (b || is_covered ds c) ≡ true
        → ReportsFirst (d ∷ ds) c
    by_first true k rest = record { first = d; is_oldest = refl; covers_it = k }
    by_first false k rest = absurd (false≢true (sym h ∙ covered-reset ds c rest r))

pub reported_first : (queue : List UnitAttention) (c : UnitAttention) → IsQueue queue
    → is_reset c ≡ true → ReportsFirst (with_condition queue c) c
reported_first queue c q r = by_covering (is_covered queue c) refl
  where
    by_covering : (b : Bool) → is_covered queue c ≡ b → ReportsFirst (with_condition queue c) c
    by_covering true e =
        subst (λ b. ReportsFirst (if b then queue
        else (if is_reset c then c ∷ without_resets queue else queue ++ c ∷ [])) c) (sym e)
        (first-covers queue c e r q.reset_first)
    by_covering false e =
        subst (λ k. ReportsFirst k c) (sym (with_reset queue c e r))
        (record { first = c; is_oldest = refl; covers_it = covers-itself c })

-- a condition that is no reset's stays
stays-without : (queue : List UnitAttention) (other : UnitAttention) → is_reset other ≡ false
    → is_pending queue other ≡ true → is_pending (without_resets queue) other ≡ true
stays-without [] other n h = h
stays-without (d ∷ ds) other n h =
    by_same (number_of d == number_of other) refl (is_reset d) refl h
    (λ k. stays-without ds other n k)
  where
    by_same : (b : Bool) → (number_of d == number_of other) ≡ b → (r : Bool) → is_reset d ≡ r
        → (b || is_pending ds other) ≡ true
        → (is_pending ds other ≡ true → is_pending (without_resets ds) other ≡ true)
        → is_pending (cond (not r) (d ∷ without_resets ds) (without_resets ds)) other ≡ true
    by_same true k true e rest later =
        let same : d ≡ other = same_condition d other (grind (arith, nat_tests)) in
        absurd (false≢true (sym n ∙ (ap is_reset (sym same) ∙ e)))
    by_same true k false e rest later =
        ap (λ b. b || is_pending (without_resets ds) other) k
    by_same false k true e rest later = later rest
    by_same false k false e rest later =
        or_right (number_of d == number_of other) (is_pending (without_resets ds) other) (later rest)

pub stays_pending : (queue : List UnitAttention) (c other : UnitAttention) → is_reset other ≡ false
    → is_pending queue other ≡ true → is_pending (with_condition queue c) other ≡ true
stays_pending queue c other n h = by_cases (is_covered queue c) (is_reset c)
  where
    by_cases : (b r : Bool) → is_pending (if b then queue
        else (if r then c ∷ without_resets queue else queue ++ c ∷ [])) other ≡ true
    by_cases true r = h
    by_cases false true =
        or_right (number_of c == number_of other) (is_pending (without_resets queue) other)
        (stays-without queue other n h)
    by_cases false false =
        list_any-append (is_condition other) queue (c ∷ [])
        ∙ ap (λ b. b || is_pending (c ∷ []) other) h

-- ---- One queue of all

one-queue : IsQueue (PowerOn ∷ [])
one-queue = record { limit = omega arith; distinct = (tt, tt); reset_first = refl }

pub no-queue : IsQueue []
no-queue = record { limit = omega arith; distinct = tt; reset_first = refl }

same-queues : (n : ℕ) (queue : List UnitAttention) → IsQueue queue → AreQueues (replicate n queue)
same-queues zero queue q = tt
same-queues (suc n) queue q = (q, same-queues n queue q)

-- after power on
pub ArePending-power_on : ArePending power_on_pending
ArePending-power_on = record {
  one_for_each = refl;
  queues = same-queues initiator_count (PowerOn ∷ []) one-queue;
}

queues-set : (pending : Pending) (i : ℕ) (queue : List UnitAttention) → AreQueues pending
    → IsQueue queue → AreQueues (set pending i queue)
queues-set [] i queue h q = h
queues-set (first ∷ more) zero queue h q = (q, h.1)
queues-set (first ∷ more) (suc i) queue h q = (h.0, queues-set more i queue h.1 q)

pub IsQueue-pending_for : (pending : Pending) (i : ℕ) → AreQueues pending
    → IsQueue (pending_for pending i)
IsQueue-pending_for [] i h = no-queue
IsQueue-pending_for (first ∷ more) zero h = h.0
IsQueue-pending_for (first ∷ more) (suc i) h = IsQueue-pending_for more i h.1

-- a queue of the list is as it was changed
pub queue-replaced : (change : List UnitAttention → List UnitAttention)
    (queues : List (ArrayVec UnitAttention)) (i : ℕ) (d new : ArrayVec UnitAttention)
    → new.items ≡ change (get_or queues i d).items
    → map items_of (set queues i new)
    ≡ set (map items_of queues) i (change (pending_for (map items_of queues) i))
queue-replaced change [] i d new n = refl
queue-replaced change (q ∷ qs) zero d new n = ap (λ k. k ∷ map items_of qs) n
queue-replaced change (q ∷ qs) (suc i) d new n =
    ap (λ k. q.items ∷ k) (queue-replaced change qs i d new n)

-- the queue at an index of the list
pub queue-at : (queues : List (ArrayVec UnitAttention)) (i : ℕ) (d : ArrayVec UnitAttention)
    → i < length queues → pending_for (map items_of queues) i ≡ (get_or queues i d).items
queue-at [] i d h = absurd (omega arith)
queue-at (q ∷ qs) zero d h = refl
queue-at (q ∷ qs) (suc i) d h = queue-at qs i d (omega arith)

ArePending-set : (pending : Pending) (i : ℕ) (queue : List UnitAttention) → ArePending pending
    → IsQueue queue → ArePending (set pending i queue)
ArePending-set pending i queue h q = record {
  one_for_each = omega (arith, h.one_for_each, length-set pending i queue);
  queues = queues-set pending i queue h.queues q;
}

-- the oldest condition of a queue is dropped, if there is one
pub ArePending-cleared : (pending : Pending) (i : ℕ) → ArePending pending
    → ArePending (without_oldest pending i)
ArePending-cleared pending i h =
    ArePending-set pending i (drop 1 (pending_for pending i)) h
    (IsQueue-drop (pending_for pending i) (IsQueue-pending_for pending i h.queues))

-- one condition is taken out of one queue
pub ArePending-without : (pending : Pending) (i : ℕ) (condition : UnitAttention)
    → ArePending pending → ArePending (without_condition pending i condition)
ArePending-without pending i condition h =
    ArePending-set pending i _ h
    (IsQueue-filter _ (pending_for pending i) (IsQueue-pending_for pending i h.queues))

-- a condition is put to one queue
pub ArePending-raised_one : (pending : Pending) (i : ℕ) (condition : UnitAttention)
    → ArePending pending → ArePending (raised pending i condition)
ArePending-raised_one pending i condition h =
    ArePending-set pending i (with_condition (pending_for pending i) condition) h
    (IsQueue-with_optional (pending_for pending i) (Some condition)
    (IsQueue-pending_for pending i h.queues))

made-queues : (queue : ℕ → List UnitAttention) → ((i : ℕ) → IsQueue (queue i)) → (is : List ℕ)
    → AreQueues (map queue is)
made-queues queue q [] = tt
made-queues queue q (i ∷ is) = (q i, made-queues queue q is)

-- one condition is put to each queue, if there is one
pub ArePending-raised : (pending : Pending) (conditions : Conditions) → ArePending pending
    → ArePending (raised_for_each pending conditions)
unfolding raised_for_each
ArePending-raised pending conditions h =
    let q : (i : ℕ) → IsQueue (queue_after pending conditions i) =
    λ i. IsQueue-with_optional (pending_for pending i) (get_or conditions i None)
    (IsQueue-pending_for pending i h.queues) in
    record { one_for_each = refl; queues = made-queues _ q (range_with_len 0 initiator_count) }

pub ArePending-replaced : (queues : List (ArrayVec UnitAttention)) (i : ℕ)
    (d new : ArrayVec UnitAttention) → i < length queues → ArePending (map items_of queues)
    → (IsQueue (get_or queues i d).items → IsQueue new.items)
    → ArePending (map items_of (set queues i new))
ArePending-replaced queues i d new h p change =
    let before = IsQueue-pending_for (map items_of queues) i p.queues in
    let after : IsQueue new.items = change (subst IsQueue (queue-at queues i d h) before) in
    subst ArePending (sym (map-set items_of queues i new))
    (ArePending-set (map items_of queues) i new.items p after)

-- ---- One initiator after the other

same_or_less : (k n : ℕ) → k < n + 1 → (k ≡ n) ⊎ (k < n)
same_or_less k n h = cases_of (cases_lt k n)
  where
    cases_of : (k < n) ⊎ (n ≤ k) → (k ≡ n) ⊎ (k < n)
    cases_of (inl l) = inr l
    cases_of (inr l) = inl (omega arith)

-- the first n initiators have the conditions that are established for them, and the others
-- are unchanged
pub record RaisedBelow (initial : Pending) (conditions : Conditions) (pending : Pending)
    (n : ℕ) : Type 0 where
  pub below : (k : ℕ) → k < n → pending_for pending k ≡ queue_after initial conditions k
  pub from : (k : ℕ) → n ≤ k → pending_for pending k ≡ pending_for initial k

pub RaisedBelow-none : (initial : Pending) (conditions : Conditions)
    → RaisedBelow initial conditions initial 0
RaisedBelow-none initial conditions =
    record { below = λ k h. absurd (omega arith); from = λ k h. refl }

below-more : (initial : Pending) (conditions : Conditions) (pending : Pending) (n : ℕ)
    (queue : List UnitAttention) → n < length pending → RaisedBelow initial conditions pending n
    → queue ≡ queue_after initial conditions n → (k : ℕ) → k < n + 1 → (k ≡ n) ⊎ (k < n)
    → pending_for (set pending n queue) k ≡ queue_after initial conditions k
below-more initial conditions pending n queue h r e k l (inl same) =
    ap (λ j. pending_for (set pending n queue) j) same
    ∙ (get_or-set_same pending n queue [] h
    ∙ (e ∙ ap (λ j. queue_after initial conditions j) (sym same)))
below-more initial conditions pending n queue h r e k l (inr less) =
    get_or-set_other pending n k queue [] (λ d. omega arith) ∙ r.below k less

pub RaisedBelow-more : (initial : Pending) (conditions : Conditions) (pending : Pending) (n : ℕ)
    → n < length pending → RaisedBelow initial conditions pending n →
    (let queue = with_optional (pending_for pending n) (get_or conditions n None) in
    RaisedBelow initial conditions (set pending n queue) (n + 1))
RaisedBelow-more initial conditions pending n h r =
    let condition = get_or conditions n None in
    let queue = with_optional (pending_for pending n) condition in
    let e : queue ≡ queue_after initial conditions n =
    ap (λ q. with_optional q condition) (r.from n (omega arith)) in
    record {
      below =
          λ k l. below-more initial conditions pending n queue h r e k l (same_or_less k n l);
      from =
          λ k l. get_or-set_other pending n k queue [] (λ d. omega arith) ∙ r.from k (omega arith);
    }

pub RaisedBelow-all : (initial : Pending) (conditions : Conditions) (pending : Pending) (n : ℕ)
    → initiator_count ≤ n → length pending ≡ initiator_count → RaisedBelow initial conditions pending n
    → pending ≡ raised_for_each initial conditions
unfolding raised_for_each
RaisedBelow-all initial conditions pending n h size r =
    fill_by_all (queue_after initial conditions) pending initiator_count [] size
    (λ k l. r.below k (omega arith))
