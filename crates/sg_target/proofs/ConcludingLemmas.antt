-- A command is concluded: what it answers, leaves and costs on a disk with armed faults.
use Rattle.std.proofs.Common.{◌≡◌, ◌≤◌, ℕ, List, [], ◌++◌, length, min, Option, Some, None, Result}
use Rattle.std.proofs.Common.{Err, false, refl, sym, ap, subst, ◌∙◌, arith}
use Rattle.std.proofs.lemmas.List.{append-nil, length-take, take-append-drop}
use Rattle.sg_wire.specs.FirstBytes.{overwritten}
use Rattle.sg_wire.specs.declared.sense.Format.{Format}
use Rattle.sg_faults.specs.Faults.{Faults, asked, decided, is_armed}
use Rattle.sg_faults.specs.Laws.{UnarmedFaultsDoNothing}
use Rattle.sg_faults.specs.Meeting.{Seen}
use Rattle.sg_faults.specs.Places.{afterwards}
use Rattle.sg_faults.specs.declared.fault.Fault.{Fault}
use Rattle.sg_faults.specs.declared.outcome.Afterwards.{Afterwards}
use Rattle.sg_faults.specs.declared.outcome.Afterwards.TheVariants as after
use Rattle.sg_faults.specs.declared.outcome.Struck.{Struck}
use Rattle.sg_store.specs.Meter.{Meter, no_counts}
use Rattle.sg_store.specs.declared.store.Counts.{Counts}
use Rattle.sg_target.specs.Armed.{Armed, ArmedStep, Attempt, afterwards_step, answer_afterwards}
use Rattle.sg_target.specs.Armed.{armed_step, armed_step_by, attempt, attempt_by, faults_left}
use Rattle.sg_target.specs.Armed.{finished, finished_if_good, marked_by, seen, step_of_checked}
use Rattle.sg_target.specs.Armed.{unsent_afterwards}
use Rattle.sg_target.specs.Charge.{ChargesCommand, CostBounds, IsCharged, TakesArmedStep, TakesStep}
use Rattle.sg_target.specs.Charge.{armed_ranges, visit_bound}
use Rattle.sg_target.specs.Checks.{checked_cdb}
use Rattle.sg_target.specs.Demands.{data_out_length}
use Rattle.sg_target.specs.Execution.{IsExecuted}
use Rattle.sg_target.specs.MadeReplies.{finished_reply, refused_reply, reply_afterwards}
use Rattle.sg_target.specs.Laws.{LimitsAreKept}
use Rattle.sg_target.specs.Ranges.{Range, ranges_if_passed}
use Rattle.sg_target.specs.Reply.{Carries, CarriesOf, CarriesStep}
use Rattle.sg_target.specs.State.{IsWithinLimits, State, config_of}
use Rattle.sg_target.specs.Step.{Answer, Step, after_refusal, refusal_answer, sense_format}
use Rattle.sg_target.specs.Target.{TargetFields, disk_of}
use Rattle.sg_target.specs.declared.operation.Operation.{Operation}
use Rattle.sg_target.specs.declared.refusal.Refusal.{Refusal}
use Rattle.sg_target.specs.declared.refusal.Refusal.TheVariants as refusal
use Rattle.sg_target.specs.declared.refusal.Refusal.TheVariants.{Conflict, DeferredError}
use Rattle.sg_target.specs.declared.reply.Reply.{Reply}
use Rattle.sg_target.specs.declared.reply.Status.{Status}
use Rattle.sg_target.specs.declared.reply.Status.TheVariants.{Good, CheckCondition, NoReply}
use Rattle.sg_target.proofs.AlertLemmas.{refused-no-alert}
use Rattle.sg_target.proofs.ArmedLemmas.{attempt-unarmed, finished-bad, step-by-unarmed}

-- ---- What the checks have passed or refused

-- How much data-out the CDB asks for is put into a reply, which carries the same answer.
abbrev with-asked : (asked : ℕ) → Reply → Reply
with-asked asked reply = record reply { data_out = asked }

carries-asked : (written : List ℕ) (answer : Answer) (reply : Reply) (asked : ℕ)
    (buffer buffer' : List ℕ) → CarriesOf written answer reply buffer buffer'
    → CarriesOf written answer (with-asked asked reply) buffer buffer'
carries-asked written answer reply asked buffer buffer' h =
    record { status = h.status; sense = h.sense; size = h.size; data_in = h.data_in }

charged-asked : (bounds : CostBounds) (pool : ℕ) (over : List Range) (from to : Meter) (reply : Reply)
    (asked : ℕ) → IsCharged bounds pool over from to reply
    → IsCharged bounds pool over from to (with-asked asked reply)
charged-asked bounds pool over from to reply asked h = record {
  visits = h.visits;
  probes = h.probes;
  links = h.links;
  least = h.least;
  visited = h.visited;
  counted = h.counted;
  restarts = h.restarts;
  idle = h.idle;
}

module _ (limits : LimitsAreKept) (bounds : CostBounds) (i : ℕ) (cdb data_out : List ℕ) (asked : ℕ)
    (checked : Result Operation Refusal) (old new : TargetFields) (reply : Reply)
    (buffer buffer' : List ℕ) (is : checked ≡ checked_cdb old.state i cdb data_out) where
  abbrev before : Armed
  before = disk_of old

  step-is : armed_step_by before i cdb checked ≡ armed_step before i cdb data_out
  step-is = ap (armed_step_by before i cdb) is

  -- the step is the definition's
  pub executed : (over : List Range) → asked ≡ data_out_length (config_of old.state) cdb
      → IsWithinLimits old.state
      → TakesArmedStep bounds (armed_step_by before i cdb checked) over old new reply buffer buffer'
      → IsExecuted i cdb data_out before (disk_of new) (with-asked asked reply) buffer buffer'
  executed over asked_is within h =
      let after = h.after ∙ ap (λ (s : ArmedStep). s.after) step-is in
      record {
        answer =
            subst (λ (s : ArmedStep). CarriesStep s (with-asked asked reply) buffer buffer') step-is
            (carries-asked _ _ reply asked buffer buffer' h.answer);
        asked = asked_is;
        after = after;
        limits =
            subst (λ (disk : Armed). IsWithinLimits disk.state) (sym after)
            (limits.armed before i cdb data_out within);
      }

  -- and its ranges are
  pub charged : IsCharged bounds old.state.disk.pool (armed_ranges before i cdb checked) old.meter
      new.meter reply
      → reply.counts.visits ≤ visit_bound (armed_ranges before i cdb checked)
      → ChargesCommand bounds i cdb data_out old new (with-asked asked reply)
  charged charge visits =
      let over = ap (armed_ranges before i cdb) is in
      record {
        charge =
            subst
            (λ (xs : List Range). IsCharged bounds old.state.disk.pool xs old.meter new.meter
            (with-asked asked reply)) over
            (charged-asked bounds old.state.disk.pool _ old.meter new.meter reply asked charge);
        visits = subst (λ (xs : List Range). reply.counts.visits ≤ visit_bound xs) over visits;
      }

-- ---- The checks have refused it

refusal-data : (format : Format) (refusal : Refusal) → (refusal_answer format refusal).data_in ≡ []
refusal-data format Conflict = refl
refusal-data format (refusal.CheckCondition reason) = refl
refusal-data format refusal.Busy = refl
refusal-data format refusal.TaskSetFull = refl
refusal-data format refusal.NoReply = refl
refusal-data format (DeferredError code) = refl

-- nothing is returned, and nothing is counted
module _ (bounds : CostBounds) (i : ℕ) (refusal : Refusal) (counts : Counts) (old new : TargetFields)
    (reply : Reply) (buffer : List ℕ)
    (reply_is : reply ≡ refused_reply (sense_format old.state) refusal counts)
    (none : (counts.visits ≡ 0) × ((counts.probes ≡ 0) × (counts.links ≡ 0)))
    (meter : new.meter ≡ old.meter) where
  carries-refusal : Carries (refusal_answer (sense_format old.state) refusal) reply buffer buffer
  carries-refusal = let nothing = refusal-data (sense_format old.state) refusal in record {
    status = ap (λ (r : Reply). r.status) reply_is;
    sense = ap (λ (r : Reply). r.sense) reply_is;
    size = ap (λ (r : Reply). r.data_in) reply_is ∙ sym (ap length nothing);
    data_in = sym (ap (λ d. overwritten d buffer) nothing);
  }

  counts-nothing : reply.counts ≡ no_counts
  counts-nothing =
      ap (λ (r : Reply). r.counts) reply_is
      ∙ (λ d. record { visits = none.0 d; probes = none.1.0 d; links = none.1.1 d })

  charges-nothing : IsCharged bounds old.state.disk.pool [] old.meter new.meter reply
  charges-nothing = let visits = ap (λ (c : Counts). c.visits) counts-nothing in record {
    visits = omega (arith, visits);
    probes = omega (arith, ap (λ (c : Counts). c.probes) counts-nothing);
    links = omega (arith, ap (λ (c : Counts). c.links) counts-nothing);
    least = λ good. omega arith;
    visited = ap (λ (m : Meter). m.total) meter ∙ omega (arith, visits);
    counted = λ some. absurd (omega (arith, some));
    restarts = ap (λ (m : Meter). m.restarts) meter ∙ omega arith;
    idle = λ e. meter;
  }

  pub refused-taken : (checked : Result Operation Refusal) → checked ≡ Err refusal
      → new.state ≡ after_refusal old.state i refusal → new.faults ≡ old.faults
      → TakesStep bounds (step_of_checked old.state i checked) (ranges_if_passed old.state checked) old
      new reply buffer buffer
  refused-taken checked is state faults =
      subst
      (λ (r : Result Operation Refusal). TakesStep bounds (step_of_checked old.state i r)
      (ranges_if_passed old.state r) old new reply buffer buffer)
      (sym is)
      (subst (λ (done : Step). TakesStep bounds done [] old new reply buffer buffer)
      (sym (refused-no-alert old.state i refusal))
      (record {
        answer = carries-refusal;
        state = state;
        faults = faults;
        charge = charges-nothing;
      }))

-- ---- No fault is armed

-- all of the data-in arrives
carries-all : (answer : Answer) (reply : Reply) (buffer buffer' : List ℕ)
    → Carries answer reply buffer buffer'
    → CarriesOf (answer.data_in ++ []) answer reply buffer buffer'
carries-all answer reply buffer buffer' h = record {
  status = h.status;
  sense = h.sense;
  size = h.size;
  data_in = h.data_in ∙ ap (λ d. overwritten d buffer) (sym (append-nil answer.data_in));
}

pub takes-unarmed : UnarmedFaultsDoNothing → (bounds : CostBounds) (i : ℕ) (cdb : List ℕ)
    (checked : Result Operation Refusal) (old new : TargetFields) (reply : Reply)
    (buffer buffer' : List ℕ) → is_armed old.faults ≡ false → marked_by checked ≡ None
    → TakesStep bounds (step_of_checked old.state i checked) (ranges_if_passed old.state checked) old
    new reply buffer buffer'
    → TakesArmedStep bounds (armed_step_by (disk_of old) i cdb checked)
    (armed_ranges (disk_of old) i cdb checked) old new reply buffer buffer'
takes-unarmed law bounds i cdb checked old new reply buffer buffer' unarmed none h =
    let step = step-by-unarmed law (disk_of old) i cdb checked unarmed none in
    let tried = attempt-unarmed law old.faults (seen i cdb checked) checked unarmed none in
    record {
      answer =
          subst (λ (s : ArmedStep). CarriesStep s reply buffer buffer') (sym step)
          (carries-all _ reply buffer buffer' h.answer);
      after =
          (λ d. record { state = h.state d; faults = h.faults d })
          ∙ sym (ap (λ (s : ArmedStep). s.after) step);
      charge =
          subst
          (λ (xs : List Range). IsCharged bounds old.state.disk.pool xs old.meter new.meter reply)
          (sym (ap (λ (t : Attempt). ranges_if_passed old.state t.result) tried)) h.charge;
    }

-- ---- Faults are armed

-- the reply after the faults afterwards carries the answer after them
by-outcome : (outcome : Afterwards) (done : Step) (reply : Reply) (buffer buffer' : List ℕ)
    → Carries done.answer reply buffer buffer'
    → CarriesOf ((answer_afterwards outcome done).data_in ++ unsent_afterwards outcome done)
    (answer_afterwards outcome done) (reply_afterwards (sense_format done.state) reply outcome) buffer
    buffer'
by-outcome after.NoReply done reply buffer buffer' h =
    let all = carries-all done.answer reply buffer buffer' h in
    record { status = refl; sense = h.sense; size = h.size; data_in = all.data_in }
by-outcome (after.CheckCondition code) done reply buffer buffer' h =
    let all = carries-all done.answer reply buffer buffer' h in
    record { status = refl; sense = refl; size = h.size; data_in = all.data_in }
by-outcome (after.ShortDataIn bytes) done reply buffer buffer' h =
    let d = done.answer.data_in in
    record {
      status = h.status;
      sense = h.sense;
      size = ap (min bytes) h.size ∙ sym (length-take bytes d);
      data_in = h.data_in ∙ ap (λ xs. overwritten xs buffer) (sym (take-append-drop bytes d));
    }

afterwards-carried : (struck : Option (Struck Afterwards)) (done : Step) (reply : Reply)
    (buffer buffer' : List ℕ) (faults : Faults)
    → Carries done.answer reply buffer buffer'
    → CarriesStep (afterwards_step struck done faults)
    (finished_reply (sense_format done.state) reply struck) buffer buffer'
afterwards-carried None done reply buffer buffer' faults h =
    carries-all done.answer reply buffer buffer' h
afterwards-carried (Some struck) done reply buffer buffer' faults h =
    by-outcome struck.outcome done reply buffer buffer' h

afterwards-after : (struck : Option (Struck Afterwards)) (done : Step) (faults : Faults)
    → (afterwards_step struck done faults).after ≡ record { state = done.state; faults = faults }
afterwards-after None done faults = refl
afterwards-after (Some struck) done faults = refl

-- and costs the same
module _ (bounds : CostBounds) (pool : ℕ) (over : List Range) (from to : Meter) (format : Format)
    (reply : Reply) (h : IsCharged bounds pool over from to reply) where
  without-good : (status : Status) (sense : List ℕ) → (status ≡ Good → ⊥)
      → IsCharged bounds pool over from to (record reply { status = status; sense = sense })
  without-good status sense not = record {
    visits = h.visits;
    probes = h.probes;
    links = h.links;
    least = λ good. absurd (not good);
    visited = h.visited;
    counted = h.counted;
    restarts = h.restarts;
    idle = h.idle;
  }

  charged-by : (outcome : Afterwards)
      → IsCharged bounds pool over from to (reply_afterwards format reply outcome)
  charged-by after.NoReply = without-good NoReply reply.sense (λ bad. cc)
  charged-by (after.CheckCondition code) = without-good CheckCondition _ (λ bad. cc)
  charged-by (after.ShortDataIn bytes) = record {
    visits = h.visits;
    probes = h.probes;
    links = h.links;
    least = h.least;
    visited = h.visited;
    counted = h.counted;
    restarts = h.restarts;
    idle = h.idle;
  }

  finished-charged : (struck : Option (Struck Afterwards))
      → IsCharged bounds pool over from to (finished_reply format reply struck)
  finished-charged None = h
  finished-charged (Some struck) = charged-by struck.outcome

-- the target after the attempt, and after what is executed
module _ (bounds : CostBounds) (i : ℕ) (cdb : List ℕ) (checked : Result Operation Refusal)
    (old between done : TargetFields) (first : Seen) (result : Result Operation Refusal) (reply : Reply)
    (buffer buffer' : List ℕ) (first_is : first ≡ seen i cdb checked)
    (result_is : result ≡ (attempt old.faults first checked).result)
    (faults_are : between.faults ≡ (attempt old.faults first checked).faults)
    (state : between.state ≡ old.state) (meter : between.meter ≡ old.meter)
    (performed : TakesStep bounds (step_of_checked between.state i result)
    (ranges_if_passed between.state result) between done reply buffer buffer') where
  abbrev tried : Attempt
  tried = attempt_by (disk_of old) i cdb checked

  abbrev step : Step
  step = step_of_checked old.state i tried.result

  abbrev command : Seen
  command = seen i cdb tried.result

  abbrev mark : Option Fault
  mark = marked_by tried.result

  pub result-tried : result ≡ tried.result
  result-tried = result_is ∙ ap (λ (s : Seen). (attempt old.faults s checked).result) first_is

  takes : TakesStep bounds step (ranges_if_passed old.state tried.result) between done reply buffer
      buffer'
  takes =
      subst
      (λ (s : State). TakesStep bounds (step_of_checked s i tried.result)
      (ranges_if_passed s tried.result) between done reply buffer buffer')
      state
      (subst
      (λ (r : Result Operation Refusal). TakesStep bounds (step_of_checked between.state i r)
      (ranges_if_passed between.state r) between done reply buffer buffer')
      result-tried performed)

  kept : done.faults ≡ tried.faults
  kept =
      takes.faults
      ∙ (faults_are ∙ ap (λ (s : Seen). (attempt old.faults s checked).faults) first_is)

  charge : IsCharged bounds old.state.disk.pool (ranges_if_passed old.state tried.result) old.meter
      done.meter reply
  charge =
      subst
      (λ (m : Meter). IsCharged bounds old.state.disk.pool (ranges_if_passed old.state tried.result) m
      done.meter reply)
      meter
      (subst
      (λ (pool : ℕ). IsCharged bounds pool (ranges_if_passed old.state tried.result) between.meter
      done.meter reply)
      (ap (λ s. s.disk.pool) state) takes.charge)

  -- it does not end with GOOD
  pub takes-refused : (reply.status ≡ Good → ⊥)
      → TakesArmedStep bounds (armed_step_by (disk_of old) i cdb checked)
      (armed_ranges (disk_of old) i cdb checked) old done reply buffer buffer'
  takes-refused h =
      let bad : step.answer.status ≡ Good → ⊥ = λ good. h (takes.answer.status ∙ good) in
      let is = finished-bad step.answer.status mark command tried.faults step bad in
      record {
        answer =
            subst (λ (s : ArmedStep). CarriesStep s reply buffer buffer') (sym is)
            (carries-all step.answer reply buffer buffer' takes.answer);
        after =
            (λ d. record { state = takes.state d; faults = kept d })
            ∙ sym (ap (λ (s : ArmedStep). s.after) is);
        charge = charge;
      }

  -- it does; `second` is the command as the faults see it then
  pub takes-finished : (new : TargetFields) (second : Seen) (given : Option Fault) (last : Reply)
      → second ≡ seen i cdb result → given ≡ marked_by result → reply.status ≡ Good
      → new.state ≡ done.state → new.meter ≡ done.meter
      → new.faults ≡ asked afterwards second (faults_left given second done.faults)
      → last ≡ finished_reply (sense_format done.state) reply
      (decided afterwards second (faults_left given second done.faults))
      → TakesArmedStep bounds (armed_step_by (disk_of old) i cdb checked)
      (armed_ranges (disk_of old) i cdb checked) old new last buffer buffer'
  takes-finished new second given last second_is given_is good state' meter' faults' last_is =
      let is : finished_if_good step.answer.status mark command tried.faults step
      ≡ finished mark command tried.faults step =
      ap (λ s. finished_if_good s mark command tried.faults step) (sym takes.answer.status ∙ good) in
      let seen_as = second_is ∙ ap (seen i cdb) result-tried in
      let marks = given_is ∙ ap marked_by result-tried in
      let left : faults_left given second done.faults ≡ faults_left mark command tried.faults =
      λ d. faults_left (marks d) (seen_as d) (kept d) in
      let struck : decided afterwards second (faults_left given second done.faults)
      ≡ decided afterwards command (faults_left mark command tried.faults) =
      λ d. decided afterwards (seen_as d) (left d) in
      let final = asked afterwards command (faults_left mark command tried.faults) in
      let due = decided afterwards command (faults_left mark command tried.faults) in
      let format = ap sense_format takes.state in
      record {
        answer =
            subst (λ (s : ArmedStep). CarriesStep s last buffer buffer') (sym is)
            (subst
            (λ (r : Reply). CarriesStep (afterwards_step due step final) r buffer buffer')
            (sym (last_is ∙ (λ d. finished_reply (format d) reply (struck d))))
            (afterwards-carried due step reply buffer buffer' final takes.answer));
        after =
            (λ d. record {
              state = (state' ∙ takes.state) d;
              faults = (faults' ∙ (λ e. asked afterwards (seen_as e) (left e))) d;
            })
            ∙ (sym (afterwards-after due step final) ∙ sym (ap (λ (s : ArmedStep). s.after) is));
        charge =
            subst
            (λ (m : Meter). IsCharged bounds old.state.disk.pool
            (ranges_if_passed old.state tried.result) old.meter m last)
            (sym meter')
            (subst
            (λ (r : Reply). IsCharged bounds old.state.disk.pool
            (ranges_if_passed old.state tried.result) old.meter done.meter r)
            (sym last_is)
            (finished-charged bounds old.state.disk.pool (ranges_if_passed old.state tried.result)
            old.meter done.meter (sense_format done.state) reply charge
            (decided afterwards second (faults_left given second done.faults))));
      }
