-- Over lists of commands, the blocks have no effect on the rest of the state. They have none on the
-- answers to an initiator that may neither read nor write.
use Rattle.std.proofs.Common.{◌≡◌, ℕ, suc, Bool, true, false, cond, List, [], ◌∷◌}
use Rattle.std.proofs.Common.{filter, Option, Some, None, Result, Ok, Err, refl, sym, ap, ◌∙◌}
use Rattle.std.proofs.Common.{subst}
use Rattle.std.specs.Prelude.{nat_lt, if◌then◌else◌}
use Rattle.std.specs.FinMap.{len}
use Rattle.std.specs.List.{zip}
use Rattle.std.specs.Option.{option_map_or}
use Rattle.std.proofs.lemmas.Bool.{eqb-true}
use Rattle.sg_wire.specs.Laws.{CommandsHaveTheirClass}
use Rattle.sg_store.specs.Disk.{Contents}
use Rattle.sg_units.specs.Laws.{OthersAreRefused}
use Rattle.sg_target.specs.Alerts.{has_crossed, with_threshold_reached}
use Rattle.sg_target.specs.BlockCommands.{ExchangeFields, comparing, comparing_each, exchanging}
use Rattle.sg_target.specs.BlockCommands.{miscompare}
use Rattle.sg_target.specs.Effect.{Effect, no_space, returning_up_to, storing, with_contents}
use Rattle.sg_target.specs.ModeCommands.{changing_modes, mode_parameters, selected_modes}
use Rattle.sg_target.specs.Refusal.{when_sound, first_some}
use Rattle.sg_target.specs.ReservationCommands.{changing_reservations, reservation_change}
use Rattle.sg_target.specs.Runs.{all_calls, answers, step_of}
use Rattle.sg_target.specs.State.{State, resources_of}
use Rattle.sg_target.specs.Step.{Answer, Step, executed, outcome, refused, step, with_alert}
use Rattle.sg_target.specs.Charge.{step_before_alert}
use Rattle.sg_target.specs.declared.call.Call.{Call}
use Rattle.sg_target.specs.declared.operation.Operation.{Operation}
use Rattle.sg_target.specs.declared.operation.Operation.TheVariants.{Compare, CompareAndWrite, Copy, OrWrite}
use Rattle.sg_target.specs.declared.operation.Operation.TheVariants.{CompareEach}
use Rattle.sg_target.specs.declared.operation.Operation.TheVariants.{ReturnModes, ChangeModes}
use Rattle.sg_target.specs.declared.operation.Operation.TheVariants.{Write, Fill}
use Rattle.sg_target.specs.declared.operation.Operation.TheVariants.{Anchor, AnchorExtent}
use Rattle.sg_target.specs.declared.operation.Operation.TheVariants.{ChangeReservations}
use Rattle.sg_target.specs.declared.refusal.Reason.TheVariants.{SpaceAllocationFailed}
use Rattle.sg_target.specs.declared.refusal.Reason.TheVariants.{UnitAttention as Attention}
use Rattle.sg_target.specs.declared.refusal.Refusal.{Refusal}
use Rattle.sg_target.specs.declared.refusal.Refusal.TheVariants.{CheckCondition}
use Rattle.sg_fencing.specs.Fencing.{CountsAsMany, is_from}
use Rattle.sg_fencing.specs.ChosenAnswers.{answers_where, calls_among}
use Rattle.sg_fencing.specs.Registrants.{ExcludesReadingFrom, StaysUnregistered, excludes_reading}
use Rattle.sg_fencing.specs.Registrants.{CountsAsManyOver, CrossAlike, crosses_by, is_registrant}
use Rattle.sg_fencing.proofs.FencedRunLemmas.{answers_in}
use Rattle.sg_target.proofs.LiftLemmas.{lifted-both}
use Rattle.sg_fencing.proofs.OutsiderLemmas.{shut}
use Rattle.sg_fencing.proofs.OutsiderRunLemmas.{held-to-exclude}
use Rattle.sg_fencing.proofs.UnseenLemmas.{parse-same, unseen}

-- ---- One command

-- two states are the same except for the blocks
abbrev pub DifferInBlocks : State → State → Type 0
DifferInBlocks a b = with_contents a b.disk.contents ≡ b

abbrev pub StepsDiffer : Step → Step → Type 0
StepsDiffer first second = DifferInBlocks first.state second.state

module _ (s : State) (x : Contents) (i : ℕ) where
  abbrev t : State
  t = with_contents s x

  pub refused-differ : (refusal : Refusal) → StepsDiffer (refused s i refusal) (refused t i refusal)
  refused-differ (CheckCondition (Attention condition)) = refl
  refused-differ _ = refl

  -- a state like this one, with some blocks
  abbrev IsLike : State → Type 0
  IsLike a = a ≡ with_contents s a.disk.contents

  like-differ : (a b : State) → IsLike a → IsLike b → DifferInBlocks a b
  like-differ a b e f = ap (λ (c : State). with_contents c b.disk.contents) e ∙ sym f

  abbrev lack : Bool → Option Refusal
  lack lacks = cond {A = Option Refusal} lacks (Some (CheckCondition SpaceAllocationFailed)) None

  first-like : (first : Effect) → IsLike first.after → (lacks : Bool)
      → IsLike (option_map_or (refused s i) (lack lacks) (executed first)).state
  first-like first e true = refl
  first-like first e false = e

  second-like : (second : Effect) → IsLike second.after → (lacks : Bool)
      → IsLike (option_map_or (refused t i) (lack lacks) (executed second)).state
  second-like second f true = refl
  second-like second f false = f

  -- contents that are stored, whether there is space for them or not
  stored : (first second : Contents)
      → StepsDiffer (outcome s i (Ok (storing s first))) (outcome t i (Ok (storing t second)))
  unfolding no_space
  stored first second =
      like-differ (outcome s i (Ok (storing s first))).state (outcome t i (Ok (storing t second))).state
      (first-like (storing s first) refl (nat_lt s.disk.pool (len first)))
      (second-like (storing t second) refl (nat_lt t.disk.pool (len second)))

  -- a comparison, whatever it finds
  first-compared : (effect : Effect) → IsLike effect.after → (difference : Option ℕ)
      → IsLike (option_map_or (refused s i) (miscompare difference) (executed effect)).state
  first-compared effect e (Some offset) = refl
  first-compared effect e None = e

  second-compared : (effect : Effect) → IsLike effect.after → (difference : Option ℕ)
      → IsLike (option_map_or (refused t i) (miscompare difference) (executed effect)).state
  second-compared effect e (Some offset) = refl
  second-compared effect e None = e

  -- blocks that are replaced if they are as expected
  abbrev refusals : Option ℕ → Bool → Option Refusal
  refusals difference lacks = first_some (miscompare difference ∷ lack lacks ∷ [])

  first-exchanged : (effect : Effect) → IsLike effect.after → (difference : Option ℕ) (lacks : Bool)
      → IsLike (option_map_or (refused s i) (refusals difference lacks) (executed effect)).state
  first-exchanged effect e (Some offset) lacks = refl
  first-exchanged effect e None true = refl
  first-exchanged effect e None false = e

  second-exchanged : (effect : Effect) → IsLike effect.after → (difference : Option ℕ) (lacks : Bool)
      → IsLike (option_map_or (refused t i) (refusals difference lacks) (executed effect)).state
  second-exchanged effect e (Some offset) lacks = refl
  second-exchanged effect e None true = refl
  second-exchanged effect e None false = e

  exchanged : (exchange : ExchangeFields)
      → StepsDiffer (outcome s i (Ok (exchanging s exchange))) (outcome t i (Ok (exchanging t exchange)))
  unfolding no_space
  exchanged exchange =
      like-differ (outcome s i (Ok (exchanging s exchange))).state
      (outcome t i (Ok (exchanging t exchange))).state
      (first-exchanged (exchanging s exchange) refl _ _)
      (second-exchanged (exchanging t exchange) refl _ _)

  sound-differ : {A : Type 0} (sound : Result A Refusal) (first second : A → Effect)
      → ((value : A) → StepsDiffer (outcome s i (Ok (first value))) (outcome t i (Ok (second value))))
      → StepsDiffer (outcome s i (when_sound sound first)) (outcome t i (when_sound sound second))
  sound-differ (Ok value) first second h = h value
  sound-differ (Err refusal) first second h = refused-differ refusal

  pub operation-differs : (operation : Operation)
      → StepsDiffer (step_before_alert s i operation) (step_before_alert t i operation)
  unfolding selected_modes reservation_change
  operation-differs (ReturnModes request n) =
      sound-differ (mode_parameters s.modes request) (returning_up_to s n) (returning_up_to t n)
      (λ list. refl)
  operation-differs (ChangeModes width sp list) =
      sound-differ (selected_modes s width sp list) (changing_modes s i) (changing_modes t i) (λ modes. refl)
  operation-differs (Compare out) =
      like-differ (outcome s i (Ok (comparing s out))).state (outcome t i (Ok (comparing t out))).state
      (first-compared (comparing s out) refl _) (second-compared (comparing t out) refl _)
  operation-differs (CompareEach extent block) =
      like-differ (outcome s i (Ok (comparing_each s extent block))).state
      (outcome t i (Ok (comparing_each t extent block))).state
      (first-compared (comparing_each s extent block) refl _)
      (second-compared (comparing_each t extent block) refl _)
  operation-differs (CompareAndWrite exchange) = exchanged exchange
  operation-differs (OrWrite out) = stored _ _
  operation-differs (Copy segment) = stored _ _
  operation-differs (Write out) = stored _ _
  operation-differs (Fill extent block) = stored _ _
  operation-differs (Anchor extents) = stored _ _
  operation-differs (AnchorExtent extent) = stored _ _
  operation-differs (ChangeReservations action scope_type list) =
      sound-differ (reservation_change s i action scope_type list) (changing_reservations s i)
      (changing_reservations t i) (λ change. refl)
  operation-differs _ = refl

  -- the ends of two commands that both tell of a threshold, or neither
  abbrev crossed : State → Step → Bool
  crossed before done = has_crossed (resources_of before) done.state

  abbrev DifferIfAlike : Step → Step → Type 0
  DifferIfAlike first second = crossed s first ≡ crossed t second → StepsDiffer first second

  abbrev telling : Bool → State → State
  telling tells a = record a { attentions = if tells then with_threshold_reached a i else a.attentions }

  told-differ : (first second : Step) → StepsDiffer first second
      → DifferIfAlike (with_alert s i first) (with_alert t i second)
  told-differ first second h e = λ d. telling (e d) (h d)

  steps-differ : (cdb data_out : List ℕ)
      → DifferIfAlike (step s i cdb data_out) (step t i cdb data_out)
  steps-differ cdb data_out =
      lifted-both s t i cdb data_out refl refl (parse-same s x i data_out) DifferIfAlike
      (λ refusal e. refused-differ refusal)
      (λ operation k. told-differ (step_before_alert s i operation) (step_before_alert t i operation)
      (operation-differs operation))

-- ---- Lists of commands

module _ (refuses : OthersAreRefused) (classes : CommandsHaveTheirClass) (i : ℕ) where
  abbrev exchanges : State → List Call → List (Call × Answer)
  exchanges state calls =
      filter (λ (exchange : Call × Answer). is_from i exchange.0)
      (zip (calls_among (all_calls calls)) (answers state calls))

  more : (call : Call) (from : Bool) (a b : Answer) (xs ys : List (Call × Answer))
      → (from ≡ true → a ≡ b) → answers_in xs ≡ answers_in ys
      → answers_in (cond from ((call, a) ∷ xs) xs) ≡ answers_in (cond from ((call, b) ∷ ys) ys)
  more call true a b xs ys e rest = λ d. e refl d ∷ rest d
  more call false a b xs ys e rest = rest

  next-differs : (s t : State) (call : Call) → DifferInBlocks s t
      → crosses_by s call ≡ crosses_by t call
      → DifferInBlocks (step_of s call).state (step_of t call).state
  next-differs s t call h =
      subst
      (λ (a : State). crosses_by s call ≡ crosses_by a call
      → DifferInBlocks (step_of s call).state (step_of a call).state) h
      (steps-differ s t.disk.contents call.initiator call.cdb.now call.data_out.now)

  same-answer : (s t : State) (call : Call) → DifferInBlocks s t
      → is_registrant s call.initiator ≡ false
      → excludes_reading s.reservations.reservation ≡ true
      → CountsAsMany s t.disk.contents call.cdb.now
      → (step_of t call).answer ≡ (step_of s call).answer
  same-answer s t call h unknown exclusive none =
      let j = call.initiator in
      let held = held-to-exclude s.reservations.reservation exclusive in
      let no = shut refuses s j (record { held = held; unknown = unknown }) in
      subst (λ (a : State). (step_of a call).answer ≡ (step_of s call).answer) h
      (unseen classes s t.disk.contents j (no.reads exclusive) no.writes call.cdb.now
      call.data_out.now none)

  pub unseen-over : (calls : List Call) (s t : State) → DifferInBlocks s t
      → StaysUnregistered i s calls → ExcludesReadingFrom i s calls
      → CountsAsManyOver i s t calls → CrossAlike s t calls
      → answers_where (is_from i) t calls ≡ answers_where (is_from i) s calls
  unseen-over [] s t h stays exclusive none alike = refl
  unseen-over (call ∷ calls) s t h stays exclusive none alike =
      let after = (step_of s call).state in
      let after' = (step_of t call).state in
      let rest = unseen-over calls after after' (next-differs s t call h (alike 0 call refl))
      (λ n other e from. stays (suc n) other e from)
      (λ n other e from. exclusive (suc n) other e from)
      (λ n other e from. none (suc n) other e from)
      (λ n other e. alike (suc n) other e) in
      more call (is_from i call) (step_of t call).answer (step_of s call).answer (exchanges after' calls)
      (exchanges after calls)
      (λ from.
      let own = eqb-true call.initiator i from in
      same-answer s t call h (ap (is_registrant s) own ∙ (stays 0 call refl own).0)
      (exclusive 0 call refl own) (none 0 call refl own))
      rest
