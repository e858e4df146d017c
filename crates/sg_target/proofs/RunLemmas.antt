-- A list of events goes on by one.
use Rattle.std.proofs.Common.{◌≡◌, ◌<◌, ◌+◌, ℕ, zero, suc, List, [], ◌∷◌, ◌++◌, length, map, take}
use Rattle.std.proofs.Common.{drop, get_or, refl, sym}
use Rattle.std.proofs.Common.{ap, subst, ◌∙◌, append_assoc, Result, Ok, Err}
use Rattle.std.specs.FinMap.{len}
use Rattle.std.specs.Prelude.{◌≤◌, OnErr}
use Rattle.std.proofs.Math.Seq.{take-append_seam}
use Rattle.std.proofs.lemmas.List.{map-append, map_more}
use Rattle.sg_store.specs.Disk.{IsWellFormed}
use Rattle.sg_store.specs.Meter.{Meter}
use Rattle.sg_units.specs.Attentions.{ArePending}
use Rattle.sg_units.specs.Reservations.{IsConsistent}
use Rattle.sg_target.specs.Armed.{Armed}
use Rattle.sg_target.specs.Charge.{CostBounds, IsCharged}
use Rattle.sg_target.specs.Reply.{CarriesOf}
use Rattle.sg_target.specs.Runs.{Machine, after_event, after_events, answers_to, armed_disk}
use Rattle.sg_target.specs.Runs.{armed_after_happening, armed_step_of, ranges_of_call, Exchange}
use Rattle.sg_target.specs.Runs.{exchange, answer_in, AreCharged, HaveSizes, Exchanged}
use Rattle.sg_target.specs.State.{IsWithinLimits}
use Rattle.sg_target.specs.Step.{Answer}
use Rattle.sg_target.specs.Happenings.{Happens}
use Rattle.sg_target.specs.Target.{TargetFields, disk_of}
use Rattle.sg_target.specs.declared.call.Call.{Call}
use Rattle.sg_target.specs.declared.event.Event.{Event}
use Rattle.sg_target.specs.declared.event.Event.TheVariants as event
use Rattle.sg_target.specs.declared.happening.Happening.{Happening}
use Rattle.sg_target.specs.declared.reply.Reply.{Reply}
use Rattle.sg_target.specs.Laws.{LimitsAreKept}

module _ {S : Type 0} (machine : Machine S) where
  pub after-more : (s : S) (events : List Event) (last : Event)
      → after_events machine s (events ++ last ∷ []) ≡
      after_event machine (after_events machine s events) last
  after-more s [] last = refl
  after-more s (first ∷ events) last = after-more (after_event machine s first) events last

  answers-more : (s : S) (events : List Event) (call : Call)
      → answers_to machine s (events ++ event.Call call ∷ []) ≡
      answers_to machine s events ++ machine.answer (after_events machine s events) call ∷ []
  answers-more s [] call = refl
  answers-more s (event.Call first ∷ events) call =
      ap (λ (xs : List Answer). machine.answer s first ∷ xs)
      (answers-more (machine.after_call s first) events call)
  answers-more s (event.Happen happening ∷ events) call =
      answers-more (machine.after_happening s happening) events call

  answers-happening : (s : S) (events : List Event) (last : Happening)
      → answers_to machine s (events ++ event.Happen last ∷ []) ≡ answers_to machine s events
  answers-happening s [] last = refl
  answers-happening s (event.Call first ∷ events) last =
      ap (λ (xs : List Answer). machine.answer s first ∷ xs)
      (answers-happening (machine.after_call s first) events last)
  answers-happening s (event.Happen happening ∷ events) last =
      answers-happening (machine.after_happening s happening) events last

-- the events of a list, one item further
pub events-more : {X : Type 0} (f : X → Event) (xs : List X) (i : ℕ) (x : X) (last : Event)
    → i < length xs → x ≡ get_or xs i x → f x ≡ last
    → map f (take (i + 1) xs) ≡ map f (take i xs) ++ last ∷ []
events-more f xs i x last here is e =
    map_more f xs i x here ∙ ap (λ y. map f (take i xs) ++ y ∷ []) (ap f (sym is) ∙ e)

sizes-more : (delivered : List Exchange) (last : Exchange) → HaveSizes delivered
    → last.reply.data_in ≡ length last.data_in → HaveSizes (delivered ++ last ∷ [])
sizes-more [] last sizes size = (size, tt)
sizes-more (first ∷ delivered) last sizes size = (sizes.0, sizes-more delivered last sizes.1 size)

module _ (bounds : CostBounds) where
  charged-more : (disk : Armed) (events : List Event) (delivered : List Exchange) (call : Call)
      (last : Exchange) (before between after : Meter)
      → AreCharged bounds disk events delivered before between
      → IsCharged bounds (after_events armed_disk disk events).state.disk.pool
      (ranges_of_call (after_events armed_disk disk events) call) between after last.reply
      → AreCharged bounds disk (events ++ event.Call call ∷ []) (delivered ++ last ∷ []) before after
  charged-more disk [] [] call last before between after so_far h = (
    after,
    subst (λ (m : Meter). IsCharged bounds disk.state.disk.pool
        (ranges_of_call disk call) m after last.reply) so_far h,
    refl,
  )
  charged-more disk [] (u ∷ delivered) call last before between after so_far h = absurd so_far
  charged-more disk (event.Call first ∷ events) [] call last before between after so_far h =
      absurd so_far
  charged-more disk (event.Call first ∷ events) (u ∷ delivered) call last before between after
      so_far h = (
        so_far.0,
        so_far.1,
        charged-more (armed_step_of disk first).after events delivered call last
            so_far.0 between after so_far.2 h,
      )
  charged-more disk (event.Happen happening ∷ events) delivered call last before between after
      so_far h =
      charged-more (armed_after_happening disk happening) events delivered call last before between after
      so_far h

  charged-happening : (disk : Armed) (events : List Event) (delivered : List Exchange)
      (last : Happening) (before after : Meter)
      → AreCharged bounds disk events delivered before after
      → AreCharged bounds disk (events ++ event.Happen last ∷ []) delivered before after
  charged-happening disk [] [] last before after so_far = so_far
  charged-happening disk [] (u ∷ delivered) last before after so_far = absurd so_far
  charged-happening disk (event.Call first ∷ events) [] last before after so_far = absurd so_far
  charged-happening disk (event.Call first ∷ events) (u ∷ delivered) last before after so_far = (
    so_far.0,
    so_far.1,
    charged-happening (armed_step_of disk first).after events delivered last so_far.0 after so_far.2,
  )
  charged-happening disk (event.Happen happening ∷ events) delivered last before after so_far =
      charged-happening (armed_after_happening disk happening) events delivered last before after so_far

  pub exchanged-more : (disk : Armed) (events : List Event) (before after : List Exchange)
      (meter meter' meter'' : Meter) (call : Call) (last : Exchange)
      → Exchanged bounds disk events before after meter meter'
      → answer_in last ≡ (armed_step_of (after_events armed_disk disk events) call).answer
      → last.reply.data_in ≡ length last.data_in
      → IsCharged bounds (after_events armed_disk disk events).state.disk.pool
      (ranges_of_call (after_events armed_disk disk events) call) meter' meter'' last.reply
      → Exchanged bounds disk (events ++ event.Call call ∷ []) before (after ++ last ∷ [])
      meter meter''
  exchanged-more disk events before after meter meter' meter'' call last so_far is size h = record {
    delivered = so_far.delivered ++ last ∷ [];
    adds = ap (λ xs. xs ++ last ∷ []) so_far.adds ∙ append_assoc before so_far.delivered (last ∷ []);
    answered = map-append answer_in so_far.delivered (last ∷ [])
        ∙ ap (λ xs. xs ++ answer_in last ∷ []) so_far.answered
        ∙ ap (λ a. answers_to armed_disk disk events ++ a ∷ []) is
        ∙ sym (answers-more armed_disk disk events call);
    sizes = sizes-more so_far.delivered last so_far.sizes size;
    charged = charged-more disk events so_far.delivered call last meter meter' meter'' so_far.charged h;
  }

  pub exchanged-happening : (disk : Armed) (events : List Event) (before after : List Exchange)
      (meter meter' : Meter) (last : Happening)
      → Exchanged bounds disk events before after meter meter'
      → Exchanged bounds disk (events ++ event.Happen last ∷ []) before after meter meter'
  exchanged-happening disk events before after meter meter' last so_far = record {
    delivered = so_far.delivered;
    adds = so_far.adds;
    answered = so_far.answered ∙ sym (answers-happening armed_disk disk events last);
    sizes = so_far.sizes;
    charged = charged-happening disk events so_far.delivered last meter meter' so_far.charged;
  }

-- a fact that is always true is true on an error
pub on-err : {T E : Type 0} (r : Result T E) (P : Type 0) → P → OnErr r P
on-err (Ok x) P p = tt
on-err (Err e) P p = p

-- a target is within the limits by its type's invariant and the store's contract
pub within-seen : (inside seen : TargetFields) → inside ≡ seen
    → len inside.state.disk.contents ≤ inside.state.disk.pool → ArePending inside.state.attentions
    → IsConsistent inside.state.reservations
    → IsWellFormed inside.state.disk.capacity inside.state.disk.contents → IsWithinLimits seen.state
within-seen inside seen is used pending registered blocks =
    subst (λ (t : TargetFields). IsWithinLimits t.state) is (record {
      used = used;
      pending = pending;
      registered = registered;
      blocks = blocks;
    })

-- no table passes its limit on the way
pub all-within : LimitsAreKept → (disk : Armed) (events : List Event) (n : ℕ)
    → IsWithinLimits disk.state → IsWithinLimits (after_events armed_disk disk (take n events)).state
all-within limits disk events zero h = h
all-within limits disk [] (suc n) h = h
all-within limits disk (event.Call call ∷ events) (suc n) h =
    all-within limits (armed_step_of disk call).after events n
    (limits.armed disk call.initiator call.cdb.now call.data_out.now h)
all-within limits disk (event.Happen happening ∷ events) (suc n) h =
    all-within limits (armed_after_happening disk happening) events n
    (limits.happening happening disk.state h)

-- the data-in of a reply is at the beginning of the buffer
pub answer-carried : (answer : Answer) (unsent : List ℕ) (reply : Reply) (before after : List ℕ)
    → CarriesOf (answer.data_in ++ unsent) answer reply before after
    → answer_in (exchange reply (take reply.data_in after)) ≡ answer
answer-carried answer unsent reply before after t =
    let rest = drop (length (answer.data_in ++ unsent)) before in
    let data_in : take reply.data_in after ≡ answer.data_in =
    ap (λ n. take n after) t.size
    ∙ ap (take (length answer.data_in)) (t.data_in ∙ append_assoc answer.data_in unsent rest)
    ∙ take-append_seam answer.data_in (unsent ++ rest) in
    λ i. record { status = t.status i; sense = t.sense i; data_in = data_in i }

-- and it is as long as the reply says
pub size-carried : (answer : Answer) (unsent : List ℕ) (reply : Reply) (before after : List ℕ)
    → CarriesOf (answer.data_in ++ unsent) answer reply before after
    → reply.data_in ≡ length (take reply.data_in after)
size-carried answer unsent reply before after t = t.size
    ∙ sym (ap (λ (a : Answer). length a.data_in) (answer-carried answer unsent reply before after t))

-- a target to which something happens
pub happened : (happening : Happening) (old new : TargetFields) → Happens happening old new
    → disk_of new ≡ armed_after_happening (disk_of old) happening
happened happening old new h = λ d. record { state = h.state d; faults = h.faults d }
