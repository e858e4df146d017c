-- What a crossed threshold establishes.
use Rattle.std.proofs.Common.{◌≡◌, ◌≢◌, ◌<◌, ◌⊎◌, inl, inr, ℕ, Bool, true, false, cond, ◌&&◌, ◌||◌, not}
use Rattle.std.proofs.Common.{List, [], ◌∷◌, ◌++◌, get_or, replicate, slice_set, Option, Some, None}
use Rattle.std.proofs.Common.{refl, sym, ap, ◌∙◌, arith}
use Rattle.std.proofs.lemmas.Bool.{cases_eq, eq-eqb, ne_eqb}
use Rattle.std.proofs.lemmas.List.{get_or-replicate, get_or-set_other, get_or-set_same, length-replicate}
use Rattle.std.proofs.lemmas.List.FromFn.{get_or-map-range_with_len}
use Rattle.std.specs.List.{list_any}
use Rattle.std.specs.Prelude.{◌==◌, if◌then◌else◌}
use Rattle.sg_wire.specs.Initiator.{initiator_count}
use Rattle.sg_pages.specs.Thresholds.{alerts_only_sender}
use Rattle.sg_pages.specs.declared.mode_pages.mode_page.PageValues.{PageValues}
use Rattle.sg_pages.specs.declared.provisioning_pages.MappingResources.{MappingResources}
use Rattle.sg_units.specs.Attentions.{Pending, covers, is_condition, is_covered, is_higher, is_pending}
use Rattle.sg_units.specs.Attentions.{pending_for, with_optional}
use Rattle.sg_units.specs.Initiators.{Members, is_member}
use Rattle.sg_units.specs.Raised.{queue_after, raised_for_each, raised_for_member, raised_for_members}
use Rattle.sg_units.specs.UnitAttention.{number_of, reset_precedence}
use Rattle.sg_units.specs.declared.unit_attention.UnitAttention.{UnitAttention}
use Rattle.sg_units.specs.declared.unit_attention.UnitAttention.TheVariants.{SoftThresholdReached}
use Rattle.sg_target.specs.AlertLaws.{CrossingsAreReported}
use Rattle.sg_target.specs.Alerts.{alerted_initiators, has_crossed, with_threshold_reached}
use Rattle.sg_target.specs.State.{State}

-- ---- One queue

higher-none : (precedence : Option ℕ) → is_higher precedence None ≡ false
higher-none None = refl
higher-none (Some n) = refl

or-false : (a b : Bool) → b ≡ false → (a || b) ≡ a
or-false true b e = refl
or-false false b e = e

-- no pending condition covers it except itself
covered-same : (queue : List UnitAttention)
    → is_covered queue SoftThresholdReached ≡ is_pending queue SoftThresholdReached
covered-same [] = refl
covered-same (first ∷ rest) =
    (λ d. or-false (is_condition SoftThresholdReached first)
    (is_higher (reset_precedence first) None) (higher-none (reset_precedence first)) d
    || list_any (λ pending. covers pending SoftThresholdReached) rest)
    ∙ ap (λ b. is_condition SoftThresholdReached first || b) (covered-same rest)

added : (queue : List UnitAttention) (condition : UnitAttention)
    → is_pending (queue ++ SoftThresholdReached ∷ []) condition
    ≡ (is_pending queue condition || is_condition condition SoftThresholdReached)
added [] condition = or-false (is_condition condition SoftThresholdReached) false refl
added (first ∷ rest) condition =
    ap (λ b. is_condition condition first || b) (added rest condition)
    ∙ joined (is_condition condition first) (is_pending rest condition)
    (is_condition condition SoftThresholdReached)
  where
    joined : (a b c : Bool) → (a || (b || c)) ≡ ((a || b) || c)
    joined true b c = refl
    joined false b c = refl

-- the queue after it is told, or is not
with-it : (queue : List UnitAttention) (tells : Bool)
    → is_pending queue SoftThresholdReached ≡ false
    → is_pending (with_optional queue (if tells then Some SoftThresholdReached else None))
    SoftThresholdReached
    ≡ tells
with-it queue false none = none
with-it queue true none =
    ap
    (λ (b : Bool). is_pending (cond b queue (queue ++ SoftThresholdReached ∷ [])) SoftThresholdReached)
    (covered-same queue ∙ none)
    ∙ (added queue SoftThresholdReached
    ∙ ap (λ b. b || is_condition SoftThresholdReached SoftThresholdReached) none)

without-it : (queue : List UnitAttention) (tells : Bool) (condition : UnitAttention)
    → number_of condition ≢ number_of SoftThresholdReached
    → is_pending (with_optional queue (if tells then Some SoftThresholdReached else None)) condition
    ≡ is_pending queue condition
without-it queue false condition other = refl
without-it queue true condition other =
    by (is_covered queue SoftThresholdReached)
  where
    by : (covered : Bool)
        → is_pending (cond covered queue (queue ++ SoftThresholdReached ∷ [])) condition
        ≡ is_pending queue condition
    by true = refl
    by false =
        added queue condition
        ∙ or-false (is_pending queue condition) (is_condition condition SoftThresholdReached)
        (ne_eqb (number_of SoftThresholdReached) (number_of condition) (λ e. other (sym e)))

-- ---- Each initiator's queue

member-told : (values : PageValues) (sender i : ℕ) → sender < initiator_count → i < initiator_count
    → is_member (alerted_initiators values sender) i ≡ (not (alerts_only_sender values) || sender == i)
member-told values sender i s h = by (alerts_only_sender values)
  where
    all : Members
    all = replicate initiator_count false

    by : (only : Bool)
        → is_member (if only then slice_set all sender true else replicate initiator_count true) i
        ≡ (not only || sender == i)
    by false = get_or-replicate initiator_count i true false h
    by true = one (cases_eq sender i)
      where
        one : (sender ≡ i) ⊎ (sender ≡ i → ⊥) → get_or (slice_set all sender true) i false ≡ (sender == i)
        one (inl same) =
            ap (λ n. get_or (slice_set all sender true) n false) (sym same)
            ∙ (get_or-set_same all sender true false
            (omega (arith, s, length-replicate initiator_count false))
            ∙ sym (eq-eqb sender i same))
        one (inr other) =
            get_or-set_other all sender i true false (λ e. other (sym e))
            ∙ (get_or-replicate initiator_count i false false h ∙ sym (ne_eqb sender i other))

queue-told : (p : Pending) (members : Members) (i : ℕ) → i < initiator_count
    → pending_for (raised_for_each p (raised_for_members members SoftThresholdReached)) i
    ≡ with_optional (pending_for p i) (if is_member members i then Some SoftThresholdReached else None)
unfolding raised_for_each raised_for_members
queue-told p members i h =
    let conditions = raised_for_members members SoftThresholdReached in
    get_or-map-range_with_len (queue_after p conditions) 0 initiator_count i i [] h (omega arith)
    ∙ ap (with_optional (pending_for p i))
    (get_or-map-range_with_len (raised_for_member members SoftThresholdReached) 0 initiator_count i i
    None h (omega arith))

-- ---- The laws

told-queue : (sender i : ℕ) (after : State) → sender < initiator_count → i < initiator_count
    → pending_for (with_threshold_reached after sender) i
    ≡ with_optional (pending_for after.attentions i)
    (if not (alerts_only_sender after.modes.current) || sender == i then Some SoftThresholdReached
    else None)
told-queue sender i after s h =
    queue-told after.attentions (alerted_initiators after.modes.current sender) i h
    ∙ ap
    (λ (b : Bool). with_optional (pending_for after.attentions i)
    (if b then Some SoftThresholdReached else None))
    (member-told after.modes.current sender i s h)

pub crossings-told : CrossingsAreReported
crossings-told = record {
  reported = λ before sender i after s h none.
      by-told before sender i after s h none (has_crossed before after);
  others = λ before sender i after condition h other.
      by-others before sender i after condition h other (has_crossed before after);
}
  where
    by-told : (before : MappingResources) (sender i : ℕ) (after : State) → sender < initiator_count
        → i < initiator_count
        → is_pending (pending_for after.attentions i) SoftThresholdReached ≡ false → (crossed : Bool)
        → is_pending
        (pending_for (if crossed then with_threshold_reached after sender else after.attentions) i)
        SoftThresholdReached
        ≡ (crossed && (not (alerts_only_sender after.modes.current) || sender == i))
    by-told before sender i after s h none false = none
    by-told before sender i after s h none true =
        ap (λ (queue : List UnitAttention). is_pending queue SoftThresholdReached)
        (told-queue sender i after s h)
        ∙ with-it (pending_for after.attentions i)
        (not (alerts_only_sender after.modes.current) || sender == i) none

    by-others : (before : MappingResources) (sender i : ℕ) (after : State) (condition : UnitAttention)
        → i < initiator_count → number_of condition ≢ number_of SoftThresholdReached
        → (crossed : Bool)
        → is_pending
        (pending_for (if crossed then with_threshold_reached after sender else after.attentions) i)
        condition
        ≡ is_pending (pending_for after.attentions i) condition
    by-others before sender i after condition h other false = refl
    by-others before sender i after condition h other true =
        ap (λ (queue : List UnitAttention). is_pending queue condition)
        (queue-told after.attentions (alerted_initiators after.modes.current sender) i h)
        ∙ without-it (pending_for after.attentions i)
        (is_member (alerted_initiators after.modes.current sender) i)
        condition other
