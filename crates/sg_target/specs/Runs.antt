-- The effect of a list of events, one after another.
use Rattle.std.specs.Prelude.{◌≡◌, ◌<◌, ℕ, ◌+◌, List, [], ◌∷◌, ◌++◌, length, map, take}
use Rattle.std.specs.Prelude.{Result, OnOk, OnErr}
use Rattle.sg_store.specs.Meter.{Meter}
use Rattle.sg_target.specs.Armed.{Armed, ArmedStep, armed_step}
use Rattle.sg_target.specs.Charge.{CostBounds, IsCharged}
use Rattle.sg_target.specs.Happenings.{after_happening, faults_after}
use Rattle.sg_target.specs.Ranges.{Range, ranges}
use Rattle.sg_target.specs.State.{IsWithinLimits, State}
use Rattle.sg_target.specs.Step.{Answer, Step, step}
use Rattle.sg_target.specs.Target.{TargetFields, disk_of}
use Rattle.sg_target.specs.declared.call.Call.{Call}
use Rattle.sg_target.specs.declared.event.Event.{Event}
use Rattle.sg_target.specs.declared.event.Event.TheVariants as event
use Rattle.sg_target.specs.declared.happening.Happening.{Happening}
use Rattle.sg_target.specs.declared.reply.Reply.{Reply}

-- ---- Disks as machines

-- What a disk answers to a command, and what it becomes after a command and after a happening. `S` is
-- what the disk is.
pub record Machine (S : Type 0) : Type 0 where
  pub answer : S → Call → Answer
  pub after_call : S → Call → S
  pub after_happening : S → Happening → S

abbrev pub after_event : {S : Type 0} → Machine S → S → Event → S
after_event machine s (event.Call call) = machine.after_call s call
after_event machine s (event.Happen happening) = machine.after_happening s happening

-- After all of some events.
abbrev pub after_events : {S : Type 0} → Machine S → S → List Event → S
after_events machine s [] = s
after_events machine s (first ∷ events) = after_events machine (after_event machine s first) events

-- The answers to the commands among them, in order.
abbrev pub answers_to : {S : Type 0} → Machine S → S → List Event → List Answer
answers_to machine s [] = []
answers_to machine s (event.Call call ∷ events) =
    machine.answer s call ∷ answers_to machine (machine.after_call s call) events
answers_to machine s (event.Happen happening ∷ events) =
    answers_to machine (machine.after_happening s happening) events

-- ---- A disk with armed faults

abbrev pub armed_step_of : Armed → Call → ArmedStep
armed_step_of disk call = armed_step disk call.initiator call.cdb.now call.data_out.now

abbrev pub armed_after_happening : Armed → Happening → Armed
armed_after_happening disk happening = record {
  state = after_happening happening disk.state;
  faults = faults_after happening disk.faults;
}

abbrev pub armed_disk : Machine Armed
armed_disk = record {
  answer = λ disk call. (armed_step_of disk call).answer;
  after_call = λ disk call. (armed_step_of disk call).after;
  after_happening = armed_after_happening;
}

abbrev pub ranges_of_call : Armed → Call → List Range
ranges_of_call disk call = ranges disk call.initiator call.cdb.now call.data_out.now

-- ---- A disk without faults

abbrev pub step_of : State → Call → Step
step_of state call = step state call.initiator call.cdb.now call.data_out.now

abbrev pub sound_disk : Machine State
sound_disk = record {
  answer = λ state call. (step_of state call).answer;
  after_call = λ state call. (step_of state call).state;
  after_happening = λ state happening. after_happening happening state;
}

abbrev pub state_after_event : State → Event → State
state_after_event state event = after_event sound_disk state event

abbrev pub state_after_events : State → List Event → State
state_after_events state events = after_events sound_disk state events

abbrev pub answers_to_events : State → List Event → List Answer
answers_to_events state events = answers_to sound_disk state events

-- Only commands.

abbrev pub all_calls : List Call → List Event
all_calls calls = map (λ call. event.Call call) calls

abbrev pub state_after_all : State → List Call → State
state_after_all state calls = state_after_events state (all_calls calls)

abbrev pub answers : State → List Call → List Answer
answers state calls = answers_to_events state (all_calls calls)

-- ---- Replies

-- A reply that was delivered to a sink, with its data-in.
pub record Exchange : Type 0 where
  pub reply : Reply
  pub data_in : List ℕ

abbrev pub exchange : Reply → List ℕ → Exchange
exchange reply data_in = record { reply = reply; data_in = data_in }

-- Its answer, without the counts.
abbrev pub answer_in : Exchange → Answer
answer_in e = record { status = e.reply.status; sense = e.reply.sense; data_in = e.data_in }

-- Each reply is charged for its command's ranges, from the meter that the reply before it left. So
-- the store counts only what replies contain, and its counts are restarted only for a command. A
-- happening has no reply and leaves the meter.
abbrev pub AreCharged : CostBounds → Armed → List Event → List Exchange → (before after : Meter) → Type 0
AreCharged bounds disk [] [] before after = after ≡ before
AreCharged bounds disk [] (e ∷ rest) before after = ⊥
AreCharged bounds disk (event.Call call ∷ events) (e ∷ rest) before after =
    (between : Meter)
    × IsCharged bounds disk.state.disk.pool (ranges_of_call disk call) before between e.reply
    × AreCharged bounds (armed_step_of disk call).after events rest between after
AreCharged bounds disk (event.Call call ∷ events) [] before after = ⊥
AreCharged bounds disk (event.Happen happening ∷ events) delivered before after =
    AreCharged bounds (armed_after_happening disk happening) events delivered before after

-- Each reply has the number of bytes of data-in that it is delivered with.
abbrev pub HaveSizes : List Exchange → Type 0
HaveSizes [] = Unit {0}
HaveSizes (e ∷ rest) = (e.reply.data_in ≡ length e.data_in) × HaveSizes rest

-- Events happened, and their commands were exchanged for replies that a sink has taken: their
-- answers in order, each charged to the store's meter.
pub record Exchanged (bounds : CostBounds) (disk : Armed) (events : List Event)
    (before after : List Exchange) (meter meter' : Meter) : Type 0 where
  pub delivered : List Exchange
  pub adds : after ≡ before ++ delivered
  pub answered : map answer_in delivered ≡ answers_to armed_disk disk events
  pub sizes : HaveSizes delivered
  pub charged : AreCharged bounds disk events delivered meter meter'

-- A sink has refused the reply to the event at an index. It has taken the replies to the events
-- before. With the refused reply it would have taken the replies up to that event, and the disk is
-- the disk after that event.
pub record Stopped (bounds : CostBounds) (disk : Armed) (events : List Event)
    (before after : List Exchange) (meter meter' : Meter) (disk' : Armed) : Type 0 where
  pub index : ℕ
  pub in_range : index < length events
  pub between : Meter
  pub took : Exchanged bounds disk (take index events) before after meter between
  pub refused : Exchange
  pub with_refused : Exchanged bounds disk (take (index + 1) events)
      before (after ++ refused ∷ []) meter meter'
  pub disk_is : disk' ≡ after_events armed_disk disk (take (index + 1) events)

-- ---- Runs

-- A sink of replies: the replies that it has taken, with their data-in, and the number of replies
-- that it has refused.
pub record SinkFields : Type 0 where
  pub taken : List Exchange
  pub refused : ℕ

-- A target lets events happen in turn, and delivers the replies to a sink.
pub record RunsEvents {T E : Type 0} (bounds : CostBounds) (events : List Event)
    (old new : TargetFields) (sink sink' : SinkFields) (result : Result T E) : Type 0 where
  -- If none is refused, the sink has taken the replies to all commands, each charged to the store,
  pub took : OnOk result
      (Exchanged bounds (disk_of old) events sink.taken sink'.taken old.meter new.meter)
  -- the disk is the disk after the events,
  pub after : OnOk result (disk_of new ≡ after_events armed_disk (disk_of old) events)
  -- and no refusal is counted.
  pub sound : OnOk result (sink'.refused ≡ sink.refused)
  -- If one is refused, the events up to that one have happened, and none after it,
  pub stopped : OnErr result
      (Stopped bounds (disk_of old) events sink.taken sink'.taken old.meter new.meter (disk_of new))
  -- and one refusal is counted.
  pub fault : OnErr result (sink'.refused ≡ sink.refused + 1)
  -- No table passes its limit on the way.
  pub limits : (n : ℕ)
      → IsWithinLimits (after_events armed_disk (disk_of old) (take n events)).state
