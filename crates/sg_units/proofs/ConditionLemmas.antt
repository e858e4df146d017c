-- The unit attention conditions: each is known by its number, and a queue has room for each once.
use Rattle.std.proofs.Common.{◌≡◌, ◌≢◌, ◌<◌, ◌≤◌, ◌==◌, ℕ, Bool, ◌||◌}
use Rattle.std.proofs.Common.{true, false, List, [], ◌∷◌, ◌++◌, length}
use Rattle.std.proofs.Common.{refl, sym, ap, ◌∙◌, arith}
use Rattle.std.specs.Prelude.{Option, Some, is_some, find, if◌then◌else◌}
use Rattle.std.specs.List.{AllByRecursion, IsDistinct, list_any}
use Rattle.std.specs.Ordering.{on}
use Rattle.std.proofs.lemmas.Bool.{false≢true, or_parts}
use Rattle.std.proofs.lemmas.Bool.Decides.{nat_tests}
use Rattle.std.proofs.lemmas.Cmp.{nat_eq_equiv, on_equiv}
use Rattle.std.proofs.lemmas.Map.Made.{length-le_from_is_member}
use Rattle.std.proofs.lemmas.Option.{same_Some}
use Rattle.sg_units.specs.Attentions.{AreDistinct, IsNotAmong, IsQueue}
use Rattle.sg_units.specs.Attentions.{covers, is_covered, is_higher}
use Rattle.sg_units.specs.Attentions.{with_condition, without_resets}
use Rattle.sg_units.specs.UnitAttention.{condition_count, each_condition, is_reset, number_of}
use Rattle.sg_units.specs.UnitAttention.{reset_precedence}
use Rattle.sg_units.specs.declared.unit_attention.UnitAttention.{UnitAttention}
use Rattle.sg_units.specs.declared.unit_attention.UnitAttention.TheVariants.{MediumMayHaveChanged}
use Rattle.sg_units.specs.declared.unit_attention.UnitAttention.TheVariants.{PowerOn, ScsiBusReset}
use Rattle.sg_units.specs.declared.unit_attention.UnitAttention.TheVariants.{BusDeviceReset}
use Rattle.sg_units.specs.declared.unit_attention.UnitAttention.TheVariants.{DeviceInternalReset}
use Rattle.sg_units.specs.declared.unit_attention.UnitAttention.TheVariants.{NexusLoss}
use Rattle.sg_units.specs.declared.unit_attention.UnitAttention.TheVariants.{ModeParametersChanged}
use Rattle.sg_units.specs.declared.unit_attention.UnitAttention.TheVariants.{ReservationsPreempted}
use Rattle.sg_units.specs.declared.unit_attention.UnitAttention.TheVariants.{ReservationsReleased}
use Rattle.sg_units.specs.declared.unit_attention.UnitAttention.TheVariants.{RegistrationsPreempted}
use Rattle.sg_units.specs.declared.unit_attention.UnitAttention.TheVariants.{AsymmetricAccessStateChanged}
use Rattle.sg_units.specs.declared.unit_attention.UnitAttention.TheVariants.{CapacityDataChanged}
use Rattle.sg_units.specs.declared.unit_attention.UnitAttention.TheVariants.{SoftThresholdReached}
use Rattle.sg_units.specs.declared.unit_attention.UnitAttention.TheVariants.{MicrocodeChanged}
use Rattle.sg_units.specs.declared.unit_attention.UnitAttention.TheVariants.{InquiryDataChanged}
use Rattle.sg_units.specs.declared.unit_attention.UnitAttention.TheVariants.{ReportedLunsDataChanged}

-- ---- A condition is known by its number

has_number : ℕ → UnitAttention → Bool
has_number n condition = n == number_of condition

-- a search by number among the conditions that exist
numbered : ℕ → Option UnitAttention
numbered n = find (has_number n) each_condition

numbered-number : (c : UnitAttention) → numbered (number_of c) ≡ Some c
unfolding numbered has_number
numbered-number MediumMayHaveChanged = refl
numbered-number PowerOn = refl
numbered-number ScsiBusReset = refl
numbered-number BusDeviceReset = refl
numbered-number DeviceInternalReset = refl
numbered-number NexusLoss = refl
numbered-number ModeParametersChanged = refl
numbered-number ReservationsPreempted = refl
numbered-number ReservationsReleased = refl
numbered-number RegistrationsPreempted = refl
numbered-number AsymmetricAccessStateChanged = refl
numbered-number CapacityDataChanged = refl
numbered-number SoftThresholdReached = refl
numbered-number MicrocodeChanged = refl
numbered-number InquiryDataChanged = refl
numbered-number ReportedLunsDataChanged = refl

pub same_condition : (c d : UnitAttention) → number_of c ≡ number_of d → c ≡ d
same_condition c d e =
    same_Some c d (sym (numbered-number c) ∙ (ap numbered e ∙ numbered-number d))

-- ---- At most as many as exist

-- what a search finds is in the list
list_any-find : {X : Type 0} (p : X → Bool) (xs : List X) → list_any p xs ≡ is_some (find p xs)
list_any-find p [] = refl
list_any-find p (x ∷ xs) = by_first (p x) (list_any-find p xs)
  where
    by_first : (b : Bool) → list_any p xs ≡ is_some (find p xs)
        → (b || list_any p xs) ≡ is_some (if b then Some x else find p xs)
    by_first true later = refl
    by_first false later = later

is_known : (c : UnitAttention) → list_any (has_number (number_of c)) each_condition ≡ true
unfolding numbered
is_known c =
    list_any-find (has_number (number_of c)) each_condition ∙ ap is_some (numbered-number c)

other_number : (c d : UnitAttention) → c ≢ d → has_number (number_of c) d ≡ false
unfolding has_number
other_number c d h = by_test (number_of c == number_of d) refl
  where
    by_test : (b : Bool) → (number_of c == number_of d) ≡ b → b ≡ false
    by_test false e = refl
    by_test true e = absurd (h (same_condition c d (grind (arith, nat_tests))))

other_numbers : (c : UnitAttention) (cs : List UnitAttention) → IsNotAmong c cs
    → AllByRecursion (λ d. has_number (number_of c) d ≡ false) cs
other_numbers c [] h = tt
other_numbers c (d ∷ ds) h = (other_number c d h.0, other_numbers c ds h.1)

distinct_numbers : (queue : List UnitAttention) → AreDistinct queue
    → IsDistinct (on number_of ◌==◌) queue
unfolding IsDistinct has_number
distinct_numbers [] h = tt
distinct_numbers (c ∷ cs) h = (other_numbers c cs h.0, distinct_numbers cs h.1)

-- distinct conditions are at most as many as exist
pub at_most_each : (queue : List UnitAttention) → AreDistinct queue → length queue ≤ condition_count
unfolding has_number
at_most_each queue h =
    length-le_from_is_member (on_equiv number_of nat_eq_equiv) queue each_condition
    (distinct_numbers queue h) (λ c member. is_known c)

-- ---- A condition that no pending one covers

differ : (c d : UnitAttention) → (number_of c == number_of d) ≡ false → d ≡ c → ⊥
differ c d h e =
    let same : number_of c ≡ number_of d = ap number_of (sym e) in
    let yes : (number_of c == number_of d) ≡ true = grind (arith, nat_tests) in
    false≢true (sym h ∙ yes)

pub not_covered : (queue : List UnitAttention) (c : UnitAttention) → is_covered queue c ≡ false
    → IsNotAmong c queue
not_covered [] c h = tt
not_covered (d ∷ ds) c h =
    let parts = or_parts (covers d c) (is_covered ds c) h in
    let other =
    or_parts (number_of d == number_of c) (is_higher (reset_precedence d) (reset_precedence c))
    parts.0 in
    (differ d c other.0, not_covered ds c parts.1)

-- so there is room for it
pub room : (queue : List UnitAttention) (condition : UnitAttention) → IsQueue queue
    → is_covered queue condition ≡ false → length queue < condition_count
room queue condition q e =
    let bound = at_most_each (condition ∷ queue) (not_covered queue condition e, q.distinct) in
    omega arith

-- the condition of a reset goes to the front
pub with_reset : (queue : List UnitAttention) (c : UnitAttention) → is_covered queue c ≡ false
    → is_reset c ≡ true → with_condition queue c ≡ c ∷ without_resets queue
with_reset queue c e r =
    ap (λ b. if b then queue
    else (if is_reset c then c ∷ without_resets queue else queue ++ c ∷ [])) e
    ∙ ap (λ b. if b then c ∷ without_resets queue else queue ++ c ∷ []) r
