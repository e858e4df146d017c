-- The laws of armed faults.
use Rattle.std.proofs.Common.{◌≡◌, ◌⊎◌, inl, inr, ℕ, Bool, true, false, not, List, [], ◌∷◌, ◌++◌}
use Rattle.std.proofs.Common.{Option, Some, None, Result, Ok, Err, refl, sym, ap, ◌∙◌, subst, zero, suc}
use Rattle.std.proofs.lemmas.Bool.{and_parts, not-true}
use Rattle.std.proofs.lemmas.List.{append-nil, take-append-drop}
use Rattle.std.specs.List.{list_all}
use Rattle.sg_wire.specs.CdbDecoding.{command_in}
use Rattle.sg_wire.specs.declared.profile.Profile.{Profile}
use Rattle.sg_pages.specs.Identity.{IdentityFields}
use Rattle.sg_faults.specs.Faults.{Faults, asked, decided, disarmed, healed, is_armed}
use Rattle.sg_faults.specs.Laws.{KeepsQuiet, UnarmedFaultsDoNothing}
use Rattle.sg_faults.specs.Meeting.{Seen, reaches_medium}
use Rattle.sg_faults.specs.Places.{afterwards, at_medium, on_arrival}
use Rattle.sg_faults.specs.declared.fault.Fault.{Fault}
use Rattle.sg_faults.specs.declared.outcome.Afterwards.{Afterwards}
use Rattle.sg_faults.specs.declared.outcome.Afterwards.TheVariants as after
use Rattle.sg_faults.specs.declared.outcome.AtMedium.{AtMedium}
use Rattle.sg_faults.specs.declared.outcome.AtMedium.TheVariants as medium
use Rattle.sg_faults.specs.declared.outcome.OnArrival.{OnArrival}
use Rattle.sg_faults.specs.declared.outcome.OnArrival.TheVariants as arrival
use Rattle.sg_faults.specs.declared.outcome.Struck.{Struck}
use Rattle.sg_target.specs.Armed.{Armed, ArmedStep, Attempt, afterwards_step, armed_step}
use Rattle.sg_target.specs.Armed.{answer_afterwards, armed_step_by, arrival_attempt, attempt}
use Rattle.sg_target.specs.Armed.{attempt_of, checked_attempt, faults_left, finished_attempt}
use Rattle.sg_target.specs.Armed.{finished_if_good, first_blocks, lacks_room, marked_by}
use Rattle.sg_target.specs.Armed.{medium_attempt, refusal_on_arrival, result_at_medium, seen}
use Rattle.sg_target.specs.Armed.{step_of_checked, unsent_afterwards, whole_answer, with_room}
use Rattle.sg_target.specs.Checks.{checked_cdb}
use Rattle.sg_target.specs.Config.{ConfigFields}
use Rattle.sg_target.specs.FaultLaws.{ArrivalChangesOnlyCounts, AsWithoutFaults}
use Rattle.sg_target.specs.FaultLaws.{FaultsOnlyDropOrShorten, IsExecutedInPart}
use Rattle.sg_target.specs.FaultLaws.{OnlyPassedCommandsEndWithGood, RefusedCommandsStayRefused}
use Rattle.sg_target.specs.FaultLaws.{RunsAsWithoutFaults, StaysRefused, WritesFirstBlocks, is_arming}
use Rattle.sg_target.specs.FaultLaws.{is_write_long}
use Rattle.sg_target.specs.Happenings.{faults_after}
use Rattle.sg_target.specs.Laws.{ConfigurationStays}
use Rattle.sg_target.specs.Runs.{after_events, answers_to, armed_after_happening, armed_disk}
use Rattle.sg_target.specs.State.{State, profile_of}
use Rattle.sg_target.specs.Step.{Answer, Step, refused, step, with_alert}
use Rattle.sg_target.specs.declared.event.Event.{Event}
use Rattle.sg_target.specs.declared.event.Event.TheVariants as event
use Rattle.sg_target.specs.declared.happening.Happening.{Happening}
use Rattle.sg_target.specs.declared.happening.Happening.TheVariants.{Arm, Disarm, DisarmAll}
use Rattle.sg_target.specs.declared.operation.Operation.{Operation}
use Rattle.sg_target.specs.declared.operation.Operation.TheVariants as operation
use Rattle.sg_target.specs.declared.refusal.Reason.TheVariants as reason
use Rattle.sg_target.specs.declared.refusal.Refusal.{Refusal}
use Rattle.sg_target.specs.declared.refusal.Refusal.TheVariants.{CheckCondition}
use Rattle.sg_target.specs.declared.reply.Status.{Status}
use Rattle.sg_target.specs.declared.reply.Status.TheVariants.{Good}
use Rattle.sg_target.proofs.AlertLemmas.{refused-no-alert, no-alert}
use Rattle.sg_target.proofs.ArmedLemmas.{finished-bad, finished-state, of-both, step-unarmed}
use Rattle.sg_target.proofs.LiftLemmas.{not_good}
use Rattle.sg_target.proofs.MarkingLemmas.{only-write-long, unmarked-stays}

-- ---- What faults can do

-- a fault on arrival leaves the state
arrival-stays : (state : State) (i : ℕ) (outcome : OnArrival)
    → (refused state i (refusal_on_arrival outcome)).state ≡ state
arrival-stays state i arrival.Busy = refl
arrival-stays state i arrival.TaskSetFull = refl
arrival-stays state i arrival.ReservationConflict = refl
arrival-stays state i arrival.NoReply = refl
arrival-stays state i (arrival.CheckCondition code) = refl
arrival-stays state i (arrival.DeferredError code) = refl

-- a refusal tells of no threshold
refusal-left : (state : State) (i : ℕ) (refusal : Refusal)
    → (step_of_checked state i (Err refusal)).state ≡ (refused state i refusal).state
refusal-left state i refusal = ap (λ (s : Step). s.state) (refused-no-alert state i refusal)

module _ (state : State) (i : ℕ) (cdb data_out : List ℕ) where
  abbrev pub state_by : Result Operation Refusal → State
  state_by result = (step_of_checked state i result).state

  -- a fault refuses a command, which changes nothing then
  pub record IsDropped (result : Result Operation Refusal) : Type 0 where
    pub refusal : Refusal
    pub is : result ≡ Err refusal
    pub left : state_by result ≡ state

  -- only the first blocks of an operation that passes the checks are moved
  pub record IsCutShort (result : Result Operation Refusal) : Type 0 where
    pub operation : Operation
    pub passed : checked_cdb state i cdb data_out ≡ Ok operation
    pub blocks : ℕ
    pub is : result ≡ Ok (first_blocks blocks operation)

  -- what becomes of the result of the checks
  abbrev pub Tried : Result Operation Refusal → Type 0
  Tried result =
      (result ≡ checked_cdb state i cdb data_out) ⊎ (IsDropped result ⊎ IsCutShort result)

  by-outcome : (o : Operation) → checked_cdb state i cdb data_out ≡ Ok o → (bad : Option ℕ)
      (outcome : AtMedium) → Tried (result_at_medium o bad outcome)
  by-outcome o passed bad (medium.CheckCondition code) =
      inr (inl (record {
        refusal = CheckCondition (reason.Fault code bad);
        is = refl;
        left = refusal-left state i (CheckCondition (reason.Fault code bad));
      }))
  by-outcome o passed bad (medium.MovesOnly n) =
      inr (inr (record { operation = o; passed = passed; blocks = n; is = refl }))

  by-medium : (o : Operation) → checked_cdb state i cdb data_out ≡ Ok o
      → (struck : Option (Struck AtMedium)) (faults : Faults)
      → Tried (medium_attempt struck o faults).result
  by-medium o passed None faults = inl (sym passed)
  by-medium o passed (Some struck) faults = by-outcome o passed struck.first_bad struck.outcome

  by-checks : (command : Seen) (checked : Result Operation Refusal) (faults : Faults)
      → checked_cdb state i cdb data_out ≡ checked
      → Tried (checked_attempt command checked faults).result
  by-checks command (Ok o) faults e =
      of-both (λ (t : Attempt). Tried t.result) (reaches_medium command)
      (by-medium o e (decided at_medium command faults) (asked at_medium command faults)) (inl (sym e))
  by-checks command (Err refusal) faults e = inl (sym e)

  by-attempt : (struck : Option (Struck OnArrival)) (command : Seen)
      (checked : Result Operation Refusal) (faults : Faults)
      → checked_cdb state i cdb data_out ≡ checked
      → Tried (arrival_attempt struck command checked faults).result
  by-attempt None command checked faults e = by-checks command checked faults e
  by-attempt (Some struck) command checked faults e =
      inr (inl (record {
        refusal = refusal_on_arrival struck.outcome;
        is = refl;
        left =
            refusal-left state i (refusal_on_arrival struck.outcome)
            ∙ arrival-stays state i struck.outcome;
      }))

  -- ---- the state afterwards

  abbrev Leaves : State → Type 0
  Leaves after =
      (after ≡ state) ⊎ ((after ≡ (step state i cdb data_out).state)
      ⊎ WritesFirstBlocks state i cdb data_out after)

  cut-short : (o : Operation) → checked_cdb state i cdb data_out ≡ Ok o → (n : ℕ)
      → Leaves (state_by (Ok (first_blocks n o)))
  cut-short (operation.Read extent) passed n = inl (no-alert state i state refl)
  cut-short (operation.Write out) passed n = inr (inr (record {
    operation = operation.Write out;
    passed = passed;
    writes = refl;
    blocks = n;
    state_is = refl;
  }))
  cut-short (operation.Fill extent block) passed n = inr (inr (record {
    operation = operation.Fill extent block;
    passed = passed;
    writes = refl;
    blocks = n;
    state_is = refl;
  }))
  cut-short o passed n = inr (inl (ap state_by (sym passed)))

  tried-leaves : (result : Result Operation Refusal) → Tried result → Leaves (state_by result)
  tried-leaves result (inl same) = inr (inl (ap state_by same))
  tried-leaves result (inr (inl dropped)) = inl dropped.left
  tried-leaves result (inr (inr short)) =
      subst (λ r. Leaves (state_by r)) (sym short.is) (cut-short short.operation short.passed short.blocks)

  -- ---- the answer

  -- a step that ends with GOOD is the step of what the faults have left of an operation
  tried-good : (given : ArmedStep) (result : Result Operation Refusal) → Tried result
      → (step_of_checked state i result).answer.status ≡ Good
      → whole_answer given ≡ (step_of_checked state i result).answer
      → given.after.state ≡ state_by result
      → IsExecutedInPart state i cdb data_out given
  tried-good given (Err refusal) tried good answer after = absurd (not_good state i refusal good)
  tried-good given (Ok o) (inl same) good answer after = record {
    operation = o;
    passed = sym same;
    part = o;
    part_is = inl refl;
    answer = answer;
    after = after;
  }
  tried-good given (Ok o) (inr (inl dropped)) good answer after = let e = dropped.is in cc
  tried-good given (Ok o) (inr (inr short)) good answer after = record {
    operation = short.operation;
    passed = short.passed;
    part = o;
    part_is = let e = short.is in inr (short.blocks, cc);
    answer = answer;
    after = after;
  }

-- all data-in is the same
with-data : (answer : Answer) (data_in : List ℕ) → data_in ≡ answer.data_in
    → record answer { data_in = data_in } ≡ answer
with-data answer data_in e = ap (λ d. record answer { data_in = d }) e

-- a fault afterwards leaves no GOOD, or GOOD with the first bytes of data-in
answer-if-good : (struck : Option (Struck Afterwards)) (done : Step) (faults : Faults)
    → (afterwards_step struck done faults).answer.status ≡ Good
    → whole_answer (afterwards_step struck done faults) ≡ done.answer
answer-if-good None done faults e = with-data done.answer _ (append-nil done.answer.data_in)
answer-if-good (Some struck) done faults e = left struck.outcome e
  where
    left : (outcome : Afterwards) → (answer_afterwards outcome done).status ≡ Good
        → (let answer = answer_afterwards outcome done in
        record answer { data_in = answer.data_in ++ unsent_afterwards outcome done }) ≡ done.answer
    left after.NoReply e = cc
    left (after.CheckCondition code) e = cc
    left (after.ShortDataIn bytes) e =
        with-data done.answer _ (take-append-drop bytes done.answer.data_in)

finished-good : (status : Status) (mark : Option Fault) (command : Seen) (faults : Faults) (done : Step)
    → (finished_if_good status mark command faults done).answer.status ≡ Good
    → whole_answer (finished_if_good status mark command faults done) ≡ done.answer
finished-good Good mark command faults done e =
    let left = faults_left mark command faults in
    answer-if-good (decided afterwards command left) done (asked afterwards command left) e
finished-good _ mark command faults done e =
    with-data done.answer _ (append-nil done.answer.data_in)

module _ (disk : Armed) (i : ℕ) (cdb data_out : List ℕ) where
  abbrev pub tried_by : Attempt
  tried_by = attempt_of disk i cdb data_out

  abbrev done_by : Step
  done_by = step_of_checked disk.state i tried_by.result

  abbrev seen_by : Seen
  seen_by = seen i cdb tried_by.result

  pub is-tried : Tried disk.state i cdb data_out tried_by.result
  is-tried =
      let checked = checked_cdb disk.state i cdb data_out in
      let command = seen i cdb checked in
      let struck = decided on_arrival command disk.faults in
      let left = asked on_arrival command disk.faults in
      of-both (λ (t : Attempt). Tried disk.state i cdb data_out t.result)
      (lacks_room command (arrival_attempt struck command checked left))
      (inr (inl (record {
        refusal = CheckCondition reason.InsufficientResources;
        is = refl;
        left = refusal-left disk.state i (CheckCondition reason.InsufficientResources);
      })))
      (by-attempt disk.state i cdb data_out struck command checked left refl)

  state-left : (armed_step disk i cdb data_out).after.state ≡ done_by.state
  state-left =
      finished-state done_by.answer.status (marked_by tried_by.result) seen_by tried_by.faults done_by

pub drop-or-shorten : FaultsOnlyDropOrShorten
drop-or-shorten disk i cdb data_out =
    subst (Leaves disk.state i cdb data_out) (sym (state-left disk i cdb data_out))
    (tried-leaves disk.state i cdb data_out (tried_by disk i cdb data_out).result
    (is-tried disk i cdb data_out))

pub good-passed : OnlyPassedCommandsEndWithGood
good-passed disk i cdb data_out good =
    let tried = tried_by disk i cdb data_out in
    let done = done_by disk i cdb data_out in
    let same =
    finished-good done.answer.status (marked_by tried.result) (seen_by disk i cdb data_out) tried.faults
    done good in
    tried-good disk.state i cdb data_out (armed_step disk i cdb data_out) tried.result
    (is-tried disk i cdb data_out) (sym (ap (λ (a : Answer). a.status) same) ∙ good) same
    (state-left disk i cdb data_out)

-- a command that the checks refuse
module _ (disk : Armed) (i : ℕ) (cdb : List ℕ) (by_checks : Refusal) where
  refused-by : (refusal : Refusal)
      → (refusal ≡ by_checks) ⊎ ((fault : OnArrival) × (refusal ≡ refusal_on_arrival fault))
      → (command : Seen) (faults : Faults)
      → StaysRefused disk.state i by_checks
      (let done = with_alert disk.state i (refused disk.state i refusal) in
      finished_if_good done.answer.status None command faults done)
  refused-by refusal whose command faults =
      let done = with_alert disk.state i (refused disk.state i refusal) in
      let bad = not_good disk.state i refusal in
      let is = finished-bad done.answer.status None command faults done bad in
      record {
        refusal = refusal;
        whose = whose;
        answer = ap (λ (s : ArmedStep). s.answer) is;
        all_sent = ap (λ (s : ArmedStep). s.unsent) is;
        after =
            finished-state done.answer.status None command faults done
            ∙ refusal-left disk.state i refusal;
      }

  by-struck : (struck : Option (Struck OnArrival)) (command : Seen) (faults : Faults)
      → StaysRefused disk.state i by_checks (finished_attempt disk.state i cdb
      (with_room command (arrival_attempt struck command (Err by_checks) faults)))
  by-struck None command faults = refused-by by_checks (inl refl) _ faults
  by-struck (Some struck) command faults =
      refused-by (refusal_on_arrival struck.outcome) (inr (struck.outcome, refl)) _ faults

  stays-refused-by : StaysRefused disk.state i by_checks (armed_step_by disk i cdb (Err by_checks))
  stays-refused-by =
      let command = seen i cdb (Err by_checks) in
      by-struck (decided on_arrival command disk.faults) command (asked on_arrival command disk.faults)

pub stays-refused : RefusedCommandsStayRefused
stays-refused disk i cdb data_out refusal e =
    subst
    (λ (checked : Result Operation Refusal). StaysRefused disk.state i refusal
    (armed_step_by disk i cdb checked))
    (sym e) (stays-refused-by disk i cdb refusal)

-- ---- On arrival

module _ (state : State) (i : ℕ) (cdb : List ℕ) (command : Seen) (faults : Faults) where
  abbrev struck_by : OnArrival → Attempt
  struck_by outcome = record { result = Err (refusal_on_arrival outcome); faults = faults }

  counted-only : (outcome : OnArrival)
      → (finished_attempt state i cdb (with_room command (struck_by outcome))).after
      ≡ record { state = state; faults = faults }
  counted-only outcome =
      let refusal = refusal_on_arrival outcome in
      let done = with_alert state i (refused state i refusal) in
      let bad = not_good state i refusal in
      ap (λ (s : ArmedStep). s.after) (finished-bad done.answer.status None _ faults done bad)
      ∙ ap (λ (s : State). record { state = s; faults = faults })
      (refusal-left state i refusal ∙ arrival-stays state i outcome)

pub arrival-counts : ArrivalChangesOnlyCounts
arrival-counts disk i cdb data_out struck e =
    let checked = checked_cdb disk.state i cdb data_out in
    let command = seen i cdb checked in
    let left = asked on_arrival command disk.faults in
    ap
    (λ (d : Option (Struck OnArrival)). (finished_attempt disk.state i cdb
    (with_room command (arrival_attempt d command checked left))).after)
    e
    ∙ counted-only disk.state i cdb command left struck.outcome

-- ---- No fault is armed

none-set : (faults : Faults) (n : ℕ) → is_armed faults ≡ false → is_armed (disarmed faults n) ≡ false
none-set [] zero e = refl
none-set [] (suc n) e = refl
none-set (None ∷ faults) zero e = e
none-set (None ∷ faults) (suc n) e = none-set faults n e
none-set (Some a ∷ faults) n e = cc

still-unarmed : (profile : Profile) (happening : Happening) (faults : Faults)
    → not (is_arming profile (event.Happen happening)) ≡ true
    → is_armed faults ≡ false → is_armed (faults_after happening faults) ≡ false
still-unarmed profile (Arm fault) faults h e = cc
still-unarmed profile (Disarm n) faults h e = none-set faults n e
still-unarmed profile DisarmAll faults h e = refl
still-unarmed profile _ faults h e = e

module _ (law : UnarmedFaultsDoNothing) (stays : ConfigurationStays) (profile : Profile) where
  pub runs-sound : (disk : Armed) (events : List Event) → profile_of disk.state ≡ profile
      → is_armed disk.faults ≡ false → list_all (λ e. not (is_arming profile e)) events ≡ true
      → RunsAsWithoutFaults disk events
  runs-sound disk [] p e h = record { answers = refl; state = refl }
  runs-sound disk (event.Happen happening ∷ events) p e h =
      let here = (and_parts (not (is_arming profile (event.Happen happening))) _ h).0 in
      let rest = (and_parts (not (is_arming profile (event.Happen happening))) _ h).1 in
      let same = ap (λ (i : IdentityFields). i.profile) (stays.growth happening disk.state).identity in
      let next = runs-sound (armed_after_happening disk happening) events (same ∙ p)
      (still-unarmed profile happening disk.faults here e) rest in
      record { answers = next.answers; state = next.state }
  runs-sound disk (event.Call call ∷ events) p e h =
      let i = call.initiator in
      let cdb = call.cdb.now in
      let data_out = call.data_out.now in
      let here = not-true (is_arming profile (event.Call call)) (and_parts _ _ h).0 in
      let done = step disk.state i cdb data_out in
      let other = ap (λ q. is_write_long (command_in q cdb)) p ∙ here in
      let is = step-unarmed law disk i cdb data_out e other in
      let same = ap (λ (c : ConfigFields). c.identity.profile) (stays.command disk.state i cdb data_out) in
      let next = runs-sound (record disk { state = done.state }) events (same ∙ p) e
      (and_parts (not (is_arming profile (event.Call call))) _ h).1 in
      let after = ap (λ (s : ArmedStep). s.after) is in
      record {
        answers =
            λ d. ((ap (λ (s : ArmedStep). s.answer) is) d)
            ∷ ((ap (λ (a : Armed). answers_to armed_disk a events) after ∙ next.answers) d);
        state = ap (λ (a : Armed). (after_events armed_disk a events).state) after ∙ next.state;
      }

-- ---- Commands that no fault changes

module _ (condition : Seen → Faults → Bool) (law : KeepsQuiet condition) (i : ℕ) (cdb : List ℕ) where
  record Untouched (command : Seen) (checked : Result Operation Refusal) (tried : Attempt) : Type 0 where
    result : tried.result ≡ checked
    faults : condition command tried.faults ≡ true

  checked-untouched : (command : Seen) (checked : Result Operation Refusal) (faults : Faults)
      → condition command faults ≡ true
      → Untouched command checked (checked_attempt command checked faults)
  checked-untouched command (Err refusal) faults e = record { result = refl; faults = e }
  checked-untouched command (Ok o) faults e = let idle = law.at_medium command faults e in
      of-both (Untouched command (Ok o)) (reaches_medium command)
      (record {
        result =
            ap
            (λ (d : Option (Struck AtMedium)).
            (medium_attempt d o (asked at_medium command faults)).result)
            idle.0;
        faults =
            ap (λ (d : Option (Struck AtMedium)). condition command
            (medium_attempt d o (asked at_medium command faults)).faults) idle.0
            ∙ idle.1;
      })
      (record { result = refl; faults = e })

  attempt-untouched : (command : Seen) (checked : Result Operation Refusal) (faults : Faults)
      → condition command faults ≡ true
      → Untouched command checked (arrival_attempt (decided on_arrival command faults) command checked
      (asked on_arrival command faults))
  attempt-untouched command checked faults e =
      let idle = law.on_arrival command faults e in
      let left = asked on_arrival command faults in
      subst
      (λ (d : Option (Struck OnArrival)). Untouched command checked
      (arrival_attempt d command checked left))
      (sym idle.0) (checked-untouched command checked left idle.1)

  record IsAnswer (done : Step) (given : ArmedStep) : Type 0 where
    answer : given.answer ≡ done.answer
    all_sent : given.unsent ≡ []

  finished-untouched : (status : Status) (command : Seen) (faults : Faults) (done : Step)
      → condition command faults ≡ true
      → IsAnswer done (finished_if_good status None command faults done)
  finished-untouched Good command faults done e =
      let left = healed command faults in
      let idle = law.afterwards command left (law.healing command faults e) in
      let final = asked afterwards command left in
      subst (λ (d : Option (Struck Afterwards)). IsAnswer done (afterwards_step d done final))
      (sym idle.0) (record { answer = refl; all_sent = refl })
  finished-untouched _ command faults done e = record { answer = refl; all_sent = refl }

  pub untouched-step : (disk : Armed) (data_out : List ℕ)
      → condition (seen i cdb (checked_cdb disk.state i cdb data_out)) disk.faults ≡ true
      → is_write_long (command_in (profile_of disk.state) cdb) ≡ false
      → AsWithoutFaults disk i cdb data_out
  untouched-step disk data_out e other =
      let checked = checked_cdb disk.state i cdb data_out in
      let command = seen i cdb checked in
      let none = only-write-long disk.state i cdb data_out other in
      let met =
      arrival_attempt (decided on_arrival command disk.faults) command checked
      (asked on_arrival command disk.faults) in
      let untouched = attempt-untouched command checked disk.faults e in
      let unmarked = ap marked_by untouched.result ∙ none in
      let tried = attempt disk.faults command checked in
      let is : tried ≡ met = unmarked-stays command met unmarked in
      let done = step_of_checked disk.state i met.result in
      let same = ap (step_of_checked disk.state i) untouched.result in
      let seen_again = seen i cdb met.result in
      let again = ap (λ r. condition (seen i cdb r) met.faults) untouched.result ∙ untouched.faults in
      let given : armed_step disk i cdb data_out
      ≡ finished_if_good done.answer.status None seen_again met.faults done =
      ap (finished_attempt disk.state i cdb) is
      ∙ ap (λ (m : Option Fault). finished_if_good done.answer.status m seen_again met.faults done)
      unmarked in
      let final = finished-untouched done.answer.status seen_again met.faults done again in
      record {
        answer =
            ap (λ (s : ArmedStep). s.answer) given
            ∙ (final.answer ∙ ap (λ (s : Step). s.answer) same);
        all_sent = ap (λ (s : ArmedStep). s.unsent) given ∙ final.all_sent;
        state =
            ap (λ (s : ArmedStep). s.after.state) given
            ∙ (finished-state done.answer.status None seen_again met.faults done
            ∙ ap (λ (s : Step). s.state) same);
      }
