-- Lists of commands of registrants and others. While a reservation is held, the commands of
-- initiators that are not registered may be left out.
use Rattle.std.proofs.Common.{◌≡◌, ℕ, suc, Bool, true, false, cond, not, List, [], ◌∷◌}
use Rattle.std.proofs.Common.{filter, Ok, Err, refl, sym, ap, ◌∙◌, subst, arith}
use Rattle.std.specs.List.{zip}
use Rattle.std.specs.Result.{result_map_both}
use Rattle.std.proofs.lemmas.Bool.{false≢true}
use Rattle.sg_wire.specs.Laws.{CommandsHaveTheirClass}
use Rattle.sg_wire.specs.CdbDecoding.{command_of}
use Rattle.sg_wire.specs.declared.command.out_action.OutAction.{OutAction}
use Rattle.sg_wire.specs.declared.out_list.OutList.{OutList}
use Rattle.sg_units.specs.Attentions.{pending_for}
use Rattle.sg_units.specs.Laws.{OthersAreRefused}
use Rattle.sg_units.specs.Registrations.{is_registered}
use Rattle.sg_units.specs.ReserveOut.{Outcome, outcome}
use Rattle.sg_units.specs.declared.reservation_change.ReservationChange.{ReservationChange}
use Rattle.sg_units.specs.declared.reservation_state.ReservationState.{ReservationState}
use Rattle.sg_units.proofs.OutcomeLemmas.{EffectIs}
use Rattle.sg_target.specs.Laws.{LimitsAreKept}
use Rattle.sg_target.specs.Refusal.{when_sound}
use Rattle.sg_target.specs.ReservationCommands.{changing_reservations, out_refusal}
use Rattle.sg_target.specs.ReservationCommands.{reservation_change}
use Rattle.sg_target.specs.Runs.{all_calls, answers, state_after_all, step_of}
use Rattle.sg_target.specs.State.{IsWithinLimits, State}
use Rattle.sg_target.specs.Step.{Answer, step}
use Rattle.sg_target.specs.declared.call.Call.{Call}
use Rattle.sg_fencing.specs.ChosenAnswers.{calls_among}
use Rattle.sg_fencing.specs.Fencing.{View, view_of}
use Rattle.sg_fencing.specs.Group.{IsAsIfInsideAlone, IsReservedFrom, answers_inside, calls_inside}
use Rattle.sg_fencing.specs.Group.{NoneStarts, group_view, is_from_inside}
use Rattle.sg_fencing.specs.Registrants.{StaysUnregistered, is_registrant, rules_for}
use Rattle.sg_fencing.proofs.AgreeLemmas.{AreSame, steps-agree, with_attentions}
use Rattle.sg_fencing.proofs.AlikeLemmas.{StepsAgree, with_others}
use Rattle.sg_fencing.proofs.FencedRunLemmas.{answers_in}
use Rattle.sg_fencing.proofs.OthersLemmas.{Keeps, any_kind, of-any-kind, same-stopped}
use Rattle.sg_fencing.proofs.OutsiderLemmas.{IsOutside, outsider-keeps}
use Rattle.sg_fencing.proofs.RegistrationLemmas.{IsIdle, outcome-idle}
use Rattle.sg_fencing.proofs.StandingLemmas.{EffectStands, step-stands}

-- ---- A command from outside

module _ (state : State) (j : ℕ) (unknown : is_registrant state j ≡ false) where
  abbrev Same : ReservationState → Type 0
  Same after = is_registered after.registrations j ≡ false → after ≡ state.reservations

  abbrev Idle : ReservationChange → Type 0
  Idle = IsIdle (rules_for state) state.reservations j unknown

  changing-stays : (o : Outcome) → EffectIs Idle o
      → EffectStands Same state j (λ _. refl)
      (when_sound (result_map_both (λ change. change) out_refusal o) (changing_reservations state j))
  changing-stays (Ok change) k = k.shown change refl
  changing-stays (Err fault) k = tt

  reserving-stays : (action : OutAction) (scope_type : ℕ) (list : OutList) → any_kind action list ≡ true
      → EffectStands Same state j (λ _. refl)
      (when_sound (reservation_change state j action scope_type list) (changing_reservations state j))
  unfolding reservation_change
  reserving-stays action scope_type list h =
      changing-stays (outcome (rules_for state) state.reservations j action scope_type list)
      (outcome-idle (rules_for state) state.reservations j unknown action scope_type list)

  reservations-stay : (cdb data_out : List ℕ) → is_registrant (step state j cdb data_out).state j ≡ false
      → (step state j cdb data_out).state.reservations ≡ state.reservations
  reservations-stay cdb data_out =
      step-stands Same state j (λ _. refl) any_kind reserving-stays cdb data_out
      (of-any-kind (command_of cdb) data_out)

-- nothing has changed except unit attentions of j
record LeavesOthers (j : ℕ) (before after : State) : Type 0 where
  rest : with_attentions before after.attentions ≡ after
  queues : (k : ℕ) → (j ≡ k → ⊥) → pending_for after.attentions k ≡ pending_for before.attentions k

next-differs : (j : ℕ) → j ≡ suc j → ⊥
next-differs j e = omega arith

idle : OthersAreRefused → CommandsHaveTheirClass → (state : State) (j : ℕ) → IsOutside state j
    → IsWithinLimits state → (cdb data_out : List ℕ)
    → is_registrant (step state j cdb data_out).state j ≡ false
    → (state.stopped ≡ true → (step state j cdb data_out).state.stopped ≡ true)
    → LeavesOthers j state (step state j cdb data_out).state
idle refuses classes state j h w cdb data_out gone starts =
    let after = (step state j cdb data_out).state in
    let kept : (k : ℕ) (other : j ≡ k → ⊥) → Keeps state after k =
    λ k other. outsider-keeps refuses classes state k j other h w cdb data_out gone in
    let one = kept (suc j) (next-differs j) in
    let disk = ap (λ (v : View). v.disk) (sym one.left.view) in
    let modes = ap (λ (v : View). v.modes) (sym one.left.view) in
    let stopped = same-stopped state.stopped after.stopped one.left.not_stopped starts in
    let reservations = sym (reservations-stay state j h.unknown cdb data_out gone) in
    let identity = sym one.identity in
    record {
      rest =
          λ d. record {
            identity = identity d;
            disk = disk d;
            modes = modes d;
            attentions = after.attentions;
            reservations = reservations d;
            stopped = stopped d;
          };
      queues = λ k other. ap (λ (v : View). v.attentions) (kept k other).left.view;
    }

-- ---- Two runs

module _ (limits : LimitsAreKept) (refuses : OthersAreRefused) (classes : CommandsHaveTheirClass)
    (outside : ℕ → Bool) where
  -- two states that are the same except for unit attentions of initiators outside
  record LookSame (s t : State) : Type 0 where
    rest : with_attentions s t.attentions ≡ t
    queues : (k : ℕ) → outside k ≡ false → pending_for s.attentions k ≡ pending_for t.attentions k

  both-next : (s t : State) (call : Call) → LookSame s t → outside call.initiator ≡ false
      → StepsAgree AreSame false s.attentions t.attentions (step_of s call) (step_of t call)
  both-next s t call a inside =
      subst
      (λ (x : State). StepsAgree AreSame false s.attentions t.attentions (step_of s call)
      (step_of x call))
      a.rest
      (steps-agree s t.attentions call.initiator (a.queues call.initiator inside) call.cdb.now
      call.data_out.now)

  parted : (j k : ℕ) → outside j ≡ true → outside k ≡ false → j ≡ k → ⊥
  parted j k o i e = false≢true (sym i ∙ (ap outside (sym e) ∙ o))

  one-next : (s t after : State) (j : ℕ) → LookSame s t → outside j ≡ true → LeavesOthers j s after
      → LookSame after t
  one-next s t after j a o h = record {
    rest = ap (λ (x : State). with_attentions x t.attentions) (sym h.rest) ∙ a.rest;
    queues = λ k i. h.queues k (parted j k o i) ∙ a.queues k i;
  }

  -- what is known as the rest of the calls begins
  record Begins (s t : State) (calls : List Call) : Type 0 where
    within : IsWithinLimits s
    same : LookSame s t
    stay : (k : ℕ) → outside k ≡ true → StaysUnregistered k s calls
    reserved : IsReservedFrom outside s calls
    starts : NoneStarts outside s calls

  record Ends (s t : State) (calls own : List Call) : Type 0 where
    answers : answers_inside outside s calls ≡ answers t own
    same : LookSame (state_after_all s calls) (state_after_all t own)

  abbrev RunAlike : (calls own : List Call) → Type 0
  RunAlike calls own = (s t : State) → Begins s t calls → Ends s t calls own

  begins-next : (s t t' : State) (call : Call) (calls : List Call) → Begins s t (call ∷ calls)
      → LookSame (step_of s call).state t' → Begins (step_of s call).state t' calls
  begins-next s t t' call calls h same = record {
    within = limits.command s call.initiator call.cdb.now call.data_out.now h.within;
    same = same;
    stay = λ k o n other e from. h.stay k o (suc n) other e from;
    reserved = λ n other e o. h.reserved (suc n) other e o;
    starts = λ n other e o. h.starts (suc n) other e o;
  }

  abbrev exchanges : State → List Call → List (Call × Answer)
  exchanges s calls =
      filter (λ (exchange : Call × Answer). is_from_inside outside exchange.0)
      (zip (calls_among (all_calls calls)) (answers s calls))

  -- the calls go on by one of an initiator inside or outside
  by-caller : (call : Call) (calls own : List Call) (is_outside : Bool)
      → outside call.initiator ≡ is_outside → RunAlike calls own
      → RunAlike (call ∷ calls) (cond (not is_outside) (call ∷ own) own)
  by-caller call calls own false e rest s t h =
      let agree = both-next s t call h.same e in
      let one = (step_of s call).state in
      let other = (step_of t call).state in
      let same : LookSame one other = record {
        rest = (λ d. with_others one other.attentions (agree.reservations d)) ∙ agree.rest;
        queues = λ k i. agree.queues k (h.same.queues k i);
      } in
      let ends = rest (step_of s call).state (step_of t call).state
      (begins-next s t (step_of t call).state call calls h same) in
      let more = exchanges (step_of s call).state calls in
      record {
        answers =
            ap (λ b. answers_in (cond (not b) ((call, (step_of s call).answer) ∷ more) more)) e
            ∙ (λ d. agree.answer refl d ∷ ends.answers d);
        same = ends.same;
      }
  by-caller call calls own true e rest s t h =
      let j = call.initiator in
      let unknown = h.stay j e 0 call refl refl in
      let is_out : IsOutside s j = record { held = h.reserved 0 call refl e; unknown = unknown.0 } in
      let after = idle refuses classes s j is_out h.within call.cdb.now call.data_out.now unknown.1
      (h.starts 0 call refl e) in
      let same = one-next s t (step_of s call).state j h.same e after in
      let ends = rest (step_of s call).state t (begins-next s t t call calls h same) in
      let more = exchanges (step_of s call).state calls in
      record {
        answers =
            ap (λ b. answers_in (cond (not b) ((call, (step_of s call).answer) ∷ more) more)) e
            ∙ ends.answers;
        same = ends.same;
      }

  run-alike : (calls : List Call) → RunAlike calls (calls_inside outside calls)
  run-alike [] s t h = record { answers = refl; same = h.same }
  run-alike (call ∷ calls) s t h =
      by-caller call calls (calls_inside outside calls) (outside call.initiator) refl (run-alike calls)
      s t h

  pub left-out : (state : State) (calls : List Call) → IsWithinLimits state
      → ((k : ℕ) → outside k ≡ true → StaysUnregistered k state calls)
      → IsReservedFrom outside state calls → NoneStarts outside state calls
      → IsAsIfInsideAlone outside state calls
  left-out state calls w stay reserved starts =
      let start : LookSame state state = record { rest = refl; queues = λ k i. refl } in
      let ends = run-alike calls state state (record {
        within = w;
        same = start;
        stay = stay;
        reserved = reserved;
        starts = starts;
      }) in
      let all = state_after_all state calls in
      record {
        answers = ends.answers;
        group = ap group_view ends.same.rest;
        views =
            λ k i.
            (λ d. record (view_of all k) { attentions = ends.same.queues k i d })
            ∙ ap (λ (x : State). view_of x k) ends.same.rest;
      }
