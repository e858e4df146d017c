-- A disk in a file after a call of its own, and after a call on the file was handed out.
use Rattle.std.proofs.Common.{◌≡◌, ℕ, Bool, true, false, List, [], ◌∷◌, sym, ap, subst, ◌∙◌}
use Rattle.std.proofs.Common.{Option, Some, None, Result, Ok, Err, refl, inl, inr, arith, ap₂}
use Rattle.std.specs.Prelude.{◌≤◌, ◌<◌, ◌⊎◌, ◌&&◌, not, OnOk, IsErr}
use Rattle.std.specs.FinMap.{len}
use Rattle.sg_file.specs.Calls.{Call as FileCall}
use Rattle.sg_journal.specs.Device.{LeavesOnly}
use Rattle.sg_journal.specs.JournalState.{has_waiting}
use Rattle.sg_journal.specs.BatchValue.{BatchValue}
use Rattle.sg_kept.proofs.CompactionLemmas.{then-leaves}
use Rattle.sg_kept.proofs.HistoryLemmas.{adds-events, history-begins, sent-is}
use Rattle.sg_kept.proofs.OpenedLemmas.{kept-on}
use Rattle.sg_kept.specs.Compaction.{IsDraftOf, StandsFor, longest_of}
use Rattle.sg_kept.specs.Disk.{IsAlive, IsDead, failure_reply, longest_file}
use Rattle.sg_kept.specs.GroupCommit.{HasUnwritten}
use Rattle.sg_kept.specs.History.{AddsEvents, IsSent}
use Rattle.sg_kept.specs.Kept.{kept, powered, without_port}
use Rattle.sg_kept.specs.Owing.{owes_flush}
use Rattle.sg_kept.specs.Opened.{IsBeforeOr, opened}
use Rattle.sg_queue.specs.NextCall.{HandsOut}
use Rattle.sg_queue.specs.QueueFields.{QueueFields, has_any}
use Rattle.sg_queue.specs.declared.call.QueuedCall.{QueuedCall}
use Rattle.sg_faults.specs.Faults.{Faults}
use Rattle.sg_target.specs.Armed.{Armed, armed_step}
use Rattle.sg_target.specs.Executed.{executed_operation}
use Rattle.sg_target.specs.Execution.{IsExecuted}
use Rattle.sg_target.specs.Ports.{Forgets}
use Rattle.sg_target.specs.Runs.{after_events, armed_after_happening, armed_disk}
use Rattle.sg_target.specs.State.{State}
use Rattle.sg_target.specs.Target.{TargetFields, disk_of}
use Rattle.sg_target.specs.declared.call.Call.{Call}
use Rattle.sg_target.specs.declared.event.Event.TheVariants.{Happen, Call as Command}
use Rattle.sg_target.specs.declared.happening.Happening.{Happening}
use Rattle.sg_target.specs.declared.reply.Reply.{Reply}
use Rattle.sg_target.specs.declared.event.Event.{Event}
use Rattle.sg_embed.proofs.CompactingLemmas.{no-next, same-calls, with-file}
use Rattle.sg_embed.specs.FileDisk.{CallsDisk, CompactsOn, ExecutesInFile, FileDiskFields}
use Rattle.sg_embed.specs.FileDisk.{FlushesFile, ForgetsInFile, HandsOutNext, HappensInFile, HasBegun}
use Rattle.sg_embed.specs.FileDisk.{WaitsIfCompacting}
use Rattle.sg_embed.specs.FileDisk.{HasStopped, IsBetweenSteps, IsReady, QueuedDisk, Settles}
use Rattle.sg_embed.specs.FileDisk.{draft, failures, left_since, may_leave, moment, seen}

-- ---- A result and the death of a disk

pub if-alive : {T E P : Type 0} (result : Result T E) (dead : Bool)
    → (IsErr result → dead ≡ true) → OnOk result P → dead ≡ false → P
if-alive (Ok value) dead failed ok alive = ok
if-alive (Err error) dead failed ok alive = let is = failed refl in absurd cc

pub if-dead : {T E : Type 0} (P : Type 0) (result : Result T E) (dead : Bool)
    → OnOk result (dead ≡ false × P) → dead ≡ true → IsErr result
if-dead P (Ok value) dead ok is = let alive = ok.0 in absurd cc
if-dead P (Err error) dead ok is = refl

and-false : (b : Bool) → (b && false) ≡ false
and-false true = refl
and-false false = refl

-- ---- A call of the disk, between the end of an earlier compaction and the beginning of another one

abbrev pub in-file : QueuedDisk → (device : ℕ) → (next : Option ℕ) → FileDiskFields
in-file disk device next = record { kept = disk; device = device; next = next }

-- What the call itself has done.
pub record Ran (old mid : QueuedDisk) (becomes : Armed) : Type 0 where
  pub cause : IsAlive old → IsDead mid
      → (failures old.journal.device < failures mid.journal.device) ⊎ (longest_file < old.journal.length)
  pub stays_dead : IsDead old → mid ≡ old
  pub any_moment : IsAlive old → LeavesOnly moment left_since old.journal.device mid.journal.device
      (IsBeforeOr (seen old.journal.device) becomes)
  pub later : failures old.journal.device ≤ failures mid.journal.device
  pub is : IsAlive mid → disk_of mid.target ≡ becomes

other-batch : (old mid : QueuedDisk) (batch : BatchValue) (added : List Event) (flushed : Bool)
    → AddsEvents seen moment left_since (record old { batch = batch }) mid added flushed
    → AddsEvents seen moment left_since old mid added flushed
other-batch old mid batch added flushed adds = record {
  history = λ alive first past least has.
      adds.history alive first past least (record { memory = has.memory; file = has.file });
  crash = λ alive first past least has.
      adds.crash alive first past least (record { memory = has.memory; file = has.file });
}

-- It began with the disk whose compaction was given up.
pub ran-stopped : (old stopped mid : QueuedDisk) (next : Option ℕ) (becomes : Armed) → IsReady old next
    → HasStopped old stopped next → Ran stopped mid becomes → Ran old mid becomes
ran-stopped old stopped mid next becomes ready stops ran =
    let of_old = subst (λ (d : QueuedDisk). Ran d mid becomes) stops.same ran in
    record {
      cause = of_old.cause;
      stays_dead = λ dead.
          let is = stops.idle (no-next old next ready dead) in
          ran.stays_dead (ap (λ (d : QueuedDisk). d.is_dead) is ∙ dead) ∙ is;
      any_moment = of_old.any_moment;
      later = of_old.later;
      is = of_old.is;
    }

pub events-stopped : (old stopped mid : QueuedDisk) (next : Option ℕ) (added : List Event) (flushed : Bool)
    → HasStopped old stopped next → AddsEvents seen moment left_since stopped mid added flushed
    → AddsEvents seen moment left_since old mid added flushed
events-stopped old stopped mid next added flushed stops adds =
    other-batch old mid stopped.batch added flushed
    (subst (λ (d : QueuedDisk). AddsEvents seen moment left_since d mid added flushed) stops.same adds)

pub disk-stopped : (old stopped : QueuedDisk) (next : Option ℕ) → HasStopped old stopped next
    → disk_of stopped.target ≡ disk_of old.target
disk-stopped old stopped next stops = ap (λ (d : QueuedDisk). disk_of d.target) stops.same

module _ (old mid new : QueuedDisk) (was to : Option ℕ) (device : ℕ) (becomes : Armed)
    (ready : IsReady old was) (ran : Ran old mid becomes) where
  -- no compaction has begun
  calls-alone : (IsAlive mid → mid.journal.length ≤ longest_of mid)
      → CallsDisk (in-file old device was) (in-file mid device None) becomes
  calls-alone short = record {
    cause = ran.cause;
    stays_dead = λ dead.
        ap (λ (d : QueuedDisk). in-file d device None) (ran.stays_dead dead)
        ∙ ap (in-file old device) (sym (no-next old was ready dead));
    any_moment = ran.any_moment;
    short = λ alive. record { ended = λ _. short alive; waits = λ _. refl };
    device = refl;
  }

  begun-moment : HasBegun mid new to → IsAlive old
      → LeavesOnly moment left_since old.journal.device new.journal.device
      (IsBeforeOr (seen old.journal.device) becomes)
  begun-moment begun alive =
      then-leaves moment left_since old.journal.device mid.journal.device new.journal.device
      (IsBeforeOr (seen old.journal.device) becomes)
      (λ c. opened c ≡ opened (seen mid.journal.device))
      (IsBeforeOr (seen old.journal.device) becomes) (ran.any_moment alive) begun.compacts.any_moment
      (λ c here. here)
      (λ c same. inr (same ∙ (begun.in_file
      ∙ ap (λ (d : Armed). Some (powered d)) (ran.is begun.alive))))

  calls-begun : HasBegun mid new to → CallsDisk (in-file old device was) (in-file new device to) becomes
  calls-begun begun = record {
    cause = λ alive dead. inl (omega (arith, ran.later, begun.compacts.cause dead));
    stays_dead = λ dead.
        let alive : mid.is_dead ≡ false = begun.alive in
        let still : mid.is_dead ≡ true = ap (λ (d : QueuedDisk). d.is_dead) (ran.stays_dead dead) ∙ dead in
        absurd cc;
    any_moment = begun-moment begun;
    short = begun.short;
    device = refl;
  }

  pub calls-settled : Settles mid new to
      → CallsDisk (in-file old device was) (in-file new device to) becomes
  calls-settled (inl (same, none, short)) =
      subst (λ (n : Option ℕ). CallsDisk (in-file old device was) (in-file new device n) becomes)
      (sym none)
      (subst (λ (d : QueuedDisk). CallsDisk (in-file old device was) (in-file d device None) becomes)
      (sym same) (calls-alone short))
  calls-settled (inr begun) = calls-begun begun

  -- the disk that the call leaves
  pub is-settled : Settles mid new to → IsAlive new → (disk_of new.target ≡ disk_of mid.target) × IsAlive mid
  is-settled (inl (same, none, short)) alive =
      (ap (λ (d : QueuedDisk). disk_of d.target) same, ap (λ (d : QueuedDisk). d.is_dead) (sym same) ∙ alive)
  is-settled (inr begun) alive = (begun.compacts.disk, begun.alive)

  -- what is in the file after the call
  pub in-file-settled : Settles mid new to → IsAlive new
      → opened (seen mid.journal.device) ≡ Some (powered (disk_of mid.target))
      → opened (seen new.journal.device) ≡ Some (powered (disk_of new.target))
  in-file-settled (inl (same, none, short)) alive in_file =
      subst (λ (d : QueuedDisk). opened (seen d.journal.device) ≡ Some (powered (disk_of d.target)))
      (sym same) in_file
  in-file-settled (inr begun) alive in_file =
      begun.compacts.in_file alive ∙ (begun.in_file
      ∙ ap (λ (d : Armed). Some (powered d)) (sym begun.compacts.disk))

  pub events-settled : (added : List Event) (flushed : Bool) → Settles mid new to
      → becomes ≡ after_events armed_disk (disk_of old.target) added
      → AddsEvents seen moment left_since old mid added flushed
      → AddsEvents seen moment left_since old new added flushed
  events-settled added flushed (inl (same, none, short)) is adds =
      subst (λ (d : QueuedDisk). AddsEvents seen moment left_since old d added flushed) (sym same) adds
  events-settled added flushed (inr begun) is adds =
      adds-events seen old new added becomes is moment left_since flushed (begun-moment begun)
      (λ alive.
      let whole = ran.is begun.alive in
      let now = begun.compacts.in_file alive ∙ (begun.in_file
      ∙ ap (λ (d : Armed). Some (powered d)) whole) in
      (begun.compacts.disk ∙ whole, (inr now, λ yes. now)))

pub disk-settled : (mid new : QueuedDisk) (to : Option ℕ) → Settles mid new to
    → disk_of new.target ≡ disk_of mid.target
disk-settled mid new to (inl (same, none, short)) = ap (λ (d : QueuedDisk). disk_of d.target) same
disk-settled mid new to (inr begun) = begun.compacts.disk

-- ---- The calls

pub flushes : (old stopped mid new : QueuedDisk) (was to : Option ℕ) (device : ℕ) → IsReady old was
    → HasStopped old stopped was → Ran stopped mid (disk_of stopped.target)
    → AddsEvents seen moment left_since stopped mid [] true
    → (IsAlive mid → opened (seen mid.journal.device) ≡ Some (powered (disk_of stopped.target)))
    → disk_of mid.target ≡ disk_of stopped.target → Settles mid new to
    → FlushesFile (in-file old device was) (in-file new device to)
flushes old stopped mid new was to device ready stops ran adds flushed same settles =
    let first = disk-stopped old stopped was stops in
    let of_old = ran-stopped old stopped mid was (disk_of old.target) ready stops
    (subst (Ran stopped mid) first ran) in
    record {
      written = λ alive.
          in-file-settled old mid new was to device (disk_of old.target) ready of_old settles alive
          (flushed (is-settled old mid new was to device (disk_of old.target) ready of_old settles alive).1
          ∙ ap (λ (d : Armed). Some (powered d)) (sym same));
      disk = disk-settled mid new to settles ∙ (same ∙ first);
      events = events-settled old mid new was to device (disk_of old.target) ready of_old [] true settles
          refl (events-stopped old stopped mid was [] true stops adds);
      calls = calls-settled old mid new was to device (disk_of old.target) ready of_old settles;
    }

pub happens : (happening : Happening) (old stopped mid new : QueuedDisk) (was to : Option ℕ) (device : ℕ)
    → IsReady old was → HasStopped old stopped was
    → Ran stopped mid (armed_after_happening (disk_of stopped.target) happening)
    → AddsEvents seen moment left_since stopped mid (Happen happening ∷ []) true
    → (IsAlive mid → opened (seen mid.journal.device) ≡ Some (powered (disk_of mid.target)))
    → Settles mid new to → HappensInFile happening (in-file old device was) (in-file new device to)
happens happening old stopped mid new was to device ready stops ran adds written settles =
    let first = disk-stopped old stopped was stops in
    let becomes = armed_after_happening (disk_of old.target) happening in
    let of_old = ran-stopped old stopped mid was becomes ready stops
    (subst (λ (d : Armed). Ran stopped mid (armed_after_happening d happening)) first ran) in
    record {
      happened = λ alive.
          let live = (is-settled old mid new was to device becomes ready of_old settles alive).1 in
          disk-settled mid new to settles ∙ of_old.is live;
      written = λ alive.
          in-file-settled old mid new was to device becomes ready of_old settles alive
          (written (is-settled old mid new was to device becomes ready of_old settles alive).1);
      events = events-settled old mid new was to device becomes ready of_old (Happen happening ∷ []) true
          settles refl (events-stopped old stopped mid was (Happen happening ∷ []) true stops adds);
      calls = calls-settled old mid new was to device becomes ready of_old settles;
    }

-- No compaction begins while records wait.
waits-settled : (mid new : QueuedDisk) (to : Option ℕ) → Settles mid new to → HasUnwritten mid → new ≡ mid
waits-settled mid new to (inl (same, none, short)) waits = same
waits-settled mid new to (inr begun) (inl records) = absurd (records begun.written.0)
waits-settled mid new to (inr begun) (inr waiting) =
    let none : has_waiting mid.journal ≡ false = begun.written.1 in absurd cc

module _ (i : ℕ) (cdb data_out before after : List ℕ) (old stopped mid new : QueuedDisk)
    (was to : Option ℕ) (device : ℕ) (made reply : Reply) (waits : Bool) (ready : IsReady old was)
    (stops : HasStopped old stopped was)
    (ran : Ran stopped mid (armed_step (disk_of stopped.target) i cdb data_out).after)
    (executed : IsAlive mid
    → IsExecuted i cdb data_out (disk_of stopped.target) (disk_of mid.target) made before after)
    (owed : IsAlive mid → waits ≡ false → owes_flush (disk_of mid.target) cdb
    (executed_operation (disk_of stopped.target) i cdb data_out) ≡ true
    → opened (seen mid.journal.device) ≡ Some (powered (disk_of mid.target)))
    (waiting : waits ≡ true → owes_flush (disk_of mid.target) cdb
    (executed_operation (disk_of stopped.target) i cdb data_out) ≡ true)
    (unwritten : waits ≡ true → HasUnwritten mid) (lives : waits ≡ true → IsAlive mid)
    (adds : (call : Call) → IsSent call i cdb data_out → AddsEvents seen moment left_since stopped mid
    (Command call ∷ []) (not waits && owes_flush (disk_of mid.target) cdb
    (executed_operation (disk_of stopped.target) i cdb data_out)))
    (settles : Settles mid new to) (if_alive : IsAlive new → reply ≡ made)
    (if_dead : IsDead new → reply ≡ failure_reply new.target.state) where
  pub executes : ExecutesInFile i cdb data_out reply waits before after (in-file old device was)
      (in-file new device to)
  executes =
      let first = disk-stopped old stopped was stops in
      let becomes = (armed_step (disk_of old.target) i cdb data_out).after in
      let of_old = ran-stopped old stopped mid was becomes ready stops
      (subst (λ (d : Armed). Ran stopped mid (armed_step d i cdb data_out).after) first ran) in
      let last = sym (disk-settled mid new to settles) in
      let live : IsAlive new → IsAlive mid =
      λ alive. (is-settled old mid new was to device becomes ready of_old settles alive).1 in
      let owes = λ (from into : Armed). owes_flush into cdb (executed_operation from i cdb data_out) in
      record {
        executed = λ alive.
            subst (λ (r : Reply). IsExecuted i cdb data_out (disk_of old.target) (disk_of new.target) r
            before after) (sym (if_alive alive))
            (subst (λ (d : Armed). IsExecuted i cdb data_out (disk_of old.target) d made before after) last
            (subst (λ (d : Armed). IsExecuted i cdb data_out d (disk_of mid.target) made before after) first
            (executed (live alive))));
        owed = λ alive at_once owing.
            in-file-settled old mid new was to device becomes ready of_old settles alive
            (owed (live alive) at_once (ap (λ (d : Armed). owes d (disk_of mid.target)) first
            ∙ (ap (owes (disk_of old.target)) last ∙ owing)));
        waits_for_flush = λ yes.
            let still = waits-settled mid new to settles (unwritten yes) in
            record {
              alive = ap (λ (d : QueuedDisk). d.is_dead) still ∙ lives yes;
              owes = sym (ap (λ (d : Armed). owes d (disk_of mid.target)) first
                  ∙ ap (owes (disk_of old.target)) last) ∙ waiting yes;
              unwritten = subst HasUnwritten (sym still) (unwritten yes);
            };
        events = λ call sent.
            events-settled old mid new was to device becomes ready of_old (Command call ∷ [])
            (not waits && owes (disk_of old.target) (disk_of new.target)) settles
            (sent-is (disk_of old.target) call i cdb data_out sent)
            (subst (AddsEvents seen moment left_since old mid (Command call ∷ []))
            (ap (λ (b : Bool). not waits && b)
            (ap (λ (d : Armed). owes d (disk_of mid.target)) first ∙ ap (owes (disk_of old.target)) last))
            (events-stopped old stopped mid was (Command call ∷ [])
            (not waits && owes (disk_of stopped.target) (disk_of mid.target)) stops (adds call sent)));
        failed = if_dead;
        calls = calls-settled old mid new was to device becomes ready of_old settles;
      }

-- ---- A port is gone

abbrev with-target : QueuedDisk → TargetFields → QueuedDisk
with-target disk target = record disk { target = target }

forgets-is : (i : ℕ) (old new : TargetFields) → Forgets i old new
    → disk_of new ≡ without_port (disk_of old) i
forgets-is i old new forgets =
    ap₂ (λ (s : State) (f : Faults). record { state = s; faults = f }) forgets.state forgets.faults

forgotten-between : (i : ℕ) (disk : QueuedDisk) (next : Option ℕ) (target : TargetFields)
    → Forgets i disk.target target → IsBetweenSteps disk next
    → IsBetweenSteps (with-target disk target) next
forgotten-between i disk None target forgets between =
    λ alive.
    let usable = between alive in
    let is = forgets-is i disk.target target forgets in
    record {
      kept = kept-on seen may_leave disk.journal disk.batch disk.batch (disk_of disk.target) (disk_of target)
          usable.kept (λ left waits. waits ∙ ap (λ (d : Armed). Some (kept d)) (sym is)) refl forgets.limits;
      room = usable.room;
      scratch = usable.scratch;
    }
forgotten-between i disk (Some next) target forgets s =
    let is = sym (forgets-is i disk.target target forgets) in
    record {
      alive = s.alive;
      stands = subst (λ (d : Armed). StandsFor seen may_leave disk.journal (kept d)) is s.stands;
      idle = s.idle;
      drafts = subst (λ (d : Armed). IsDraftOf seen may_leave draft disk.journal disk.batch d next) is
          (record {
            drafted = s.drafts.drafted;
            within = s.drafts.within;
            room = s.drafts.room;
            weight = s.drafts.weight;
          });
      limits = forgets.limits;
      scratch = s.scratch;
    }

pub forgotten-ready : (i : ℕ) (disk : QueuedDisk) (next : Option ℕ) (target : TargetFields)
    → Forgets i disk.target target → IsReady disk next → IsReady (with-target disk target) next
forgotten-ready i disk next target forgets ready =
    (forgotten-between i disk next target forgets ready.0, ready.1)

pub forgets-port : (i : ℕ) (old : FileDiskFields) (mid : QueuedDisk) (device : ℕ) (next : Option ℕ)
    (target : TargetFields) → IsAlive mid → FlushesFile old (in-file mid device next)
    → Forgets i mid.target target
    → ForgetsInFile i old (in-file (with-target mid target) device next)
forgets-port i old mid device next target alive flushed forgets =
    let is = forgets-is i mid.target target forgets in
    let written = flushed.written alive ∙ ap (λ (d : Armed). Some (powered d)) (sym is) in
    let same = ap (λ (d : Armed). len d.state.disk.contents) is in
    record {
      forgotten = λ _. is ∙ ap (λ (d : Armed). without_port d i) flushed.disk;
      remembered = λ dead. absurd cc;
      written = λ _. written;
      history = λ _. history-begins seen (with-target mid target) written;
      calls = record {
        cause = flushed.calls.cause;
        stays_dead = λ dead.
            let still : mid.is_dead ≡ true =
            ap (λ (d : FileDiskFields). d.kept.is_dead) (flushed.calls.stays_dead dead) ∙ dead in
            absurd cc;
        any_moment = flushed.calls.any_moment;
        short = λ _.
            let short = flushed.calls.short alive in
            record { ended = λ none. omega (arith, short.ended none, same); waits = short.waits };
        device = flushed.calls.device;
      };
    }

-- ---- A call is handed out, and a compaction goes on

pub hands-out : (old new : QueuedDisk) (queue : QueueFields) (was to : Option ℕ) (device : ℕ)
    (before after : List ℕ) (call : Option QueuedCall) → IsAlive old → WaitsIfCompacting old was
    → HandsOut old.journal.device.file queue before after (Ok call)
    → CompactsOn (record old { journal = with-file old.journal queue }) new was to
    → HandsOutNext before after (in-file old device was) (in-file new device to) (Ok call)
hands-out old new queue was to device before after (Some call) alive waits h goes = record {
  alive = alive;
  left = in-file (record old { journal = with-file old.journal queue }) device was;
  oldest = h.waiting;
  made = h.made;
  kept = ap (λ (l : List FileCall). in-file (record old {
    journal = with-file old.journal (record {
      waiting = queue.waiting;
      made = queue.made;
      refused = l;
    });
  }) device was) h.refused;
  calls = same-calls old.journal.device.file queue before after (Ok (Some call)) h;
  goes_on = goes;
  device = refl;
}
hands-out old new queue was to device before after None alive waits h goes =
    let file = old.journal.device.file in
    let none = waits (ap has_any h.waiting.0) in
    let same = goes.spared (inr none) in
    let queue_same : queue ≡ file =
    ap₂ (λ (w m : List FileCall). record { waiting = w; made = m; refused = queue.refused })
    (h.waiting.1 ∙ sym h.waiting.0) h.made
    ∙ ap (λ (l : List FileCall). record { waiting = file.waiting; made = file.made; refused = l })
    h.refused in
    let disk_same : new ≡ old =
    same.0 ∙ ap (λ (q : QueueFields). record old { journal = with-file old.journal q }) queue_same in (
      ap (λ (l : List FileCall). not old.is_dead && has_any l) h.waiting.0 ∙ and-false (not old.is_dead),
      ap₂ (λ (d : QueuedDisk) (n : Option ℕ). in-file d device n) disk_same same.1,
      h.waiting.2,
    )
