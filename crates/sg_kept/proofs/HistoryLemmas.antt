-- Histories, and how they go on.
use Rattle.std.proofs.Common.{◌≡◌, ⊎_elim, ℕ, ◌+◌, ◌≤◌, Bool, true, false, cond, List, [], ◌∷◌, ◌++◌}
use Rattle.std.proofs.Common.{length, Some, refl, sym, ap, subst, ◌∙◌, arith, length-append}
use Rattle.std.proofs.Common.{append_assoc}
use Rattle.std.proofs.lemmas.List.{append-nil, take_all, take-append-le}
use Rattle.sg_journal.specs.Device.{LeavesOnly}
use Rattle.sg_target.specs.Armed.{Armed, armed_step}
use Rattle.sg_target.specs.Runs.{after_event, after_events, armed_disk}
use Rattle.sg_target.specs.Target.{disk_of}
use Rattle.sg_target.specs.declared.call.Call.{Call}
use Rattle.sg_target.specs.declared.event.Event.{Event}
use Rattle.sg_target.specs.declared.event.Event.TheVariants.{Call as Command}
use Rattle.sg_kept.specs.declared.disk.KeptDisk.{KeptDisk}
use Rattle.sg_kept.specs.Disk.{IsAlive}
use Rattle.sg_kept.specs.History.{AddsEvents, AreDone, CrashesLeaveFirstEvents, Done, HasFirstEvents}
use Rattle.sg_kept.specs.History.{HasHistory, IsSent, disk_after, events_of, flushed_events}
use Rattle.sg_kept.specs.Kept.{powered}
use Rattle.sg_kept.specs.Opened.{IsBeforeOr, opened}
use Rattle.sg_kept.proofs.MomentsLemmas.{weaker}

-- ---- Events in turn

pub after-both : (disk : Armed) (xs ys : List Event) → after_events armed_disk disk (xs ++ ys)
    ≡ after_events armed_disk (after_events armed_disk disk xs) ys
after-both disk [] ys = refl
after-both disk (x ∷ xs) ys = after-both (after_event armed_disk disk x) xs ys

abbrev finds : Armed → List Event → List ℕ → Type 0
finds first events file = opened file ≡ Some (powered (after_events armed_disk first events))

-- ---- What a file has

first-same : (first : Armed) (events : List Event) (least : ℕ) (f g : List ℕ) → opened g ≡ opened f
    → HasFirstEvents first events least f → HasFirstEvents first events least g
first-same first events least f g same has = record {
  count = has.count;
  at_least = has.at_least;
  at_most = has.at_most;
  opens = same ∙ has.opens;
}

first-more : (first : Armed) (events added : List Event) (least : ℕ) (file : List ℕ)
    → HasFirstEvents first events least file → HasFirstEvents first (events ++ added) least file
first-more first events added least file has = record {
  count = has.count;
  at_least = has.at_least;
  at_most = omega (arith, has.at_most, length-append events added);
  opens = has.opens
      ∙ ap (λ (l : List Event). Some (powered (after_events armed_disk first l)))
      (sym (take-append-le has.count events added has.at_most));
}

first-all : (first : Armed) (events : List Event) (least : ℕ) (file : List ℕ) → least ≤ length events
    → finds first events file → HasFirstEvents first events least file
first-all first events least file le finds = record {
  count = length events;
  at_least = le;
  at_most = omega arith;
  opens = finds
      ∙ ap (λ (l : List Event). Some (powered (after_events armed_disk first l)))
      (sym (take_all (length events) events (omega arith)));
}

-- ---- One call

module _ (first : Armed) (past added : List Event) (least : ℕ) (before : List ℕ) (disk : Armed)
    (was : HasFirstEvents first past least before)
    (is : disk ≡ after_events armed_disk first (past ++ added)) where
  all-in : (n : ℕ) (file : List ℕ) → n ≤ length (past ++ added) → opened file ≡ Some (powered disk)
      → HasFirstEvents first (past ++ added) n file
  all-in n file le e =
      first-all first (past ++ added) n file le (e ∙ ap (λ (d : Armed). Some (powered d)) is)

  -- what the file had, or all
  pub some-in : (file : List ℕ) → IsBeforeOr before disk file
      → HasFirstEvents first (past ++ added) least file
  some-in file here =
      ⊎_elim
      (λ same. first-more first past added least file (first-same first past least before file same was))
      (λ now. all-in least file (omega (arith, was.at_least, was.at_most, length-append past added)) now)
      here

  in-file : (flushed : Bool) (file : List ℕ) → IsBeforeOr before disk file
      → (flushed ≡ true → opened file ≡ Some (powered disk))
      → HasFirstEvents first (past ++ added) (cond flushed (length (past ++ added)) least) file
  in-file true file here all = all-in (length (past ++ added)) file (omega arith) (all refl)
  in-file false file here all = some-in file here

module _ {S D : Type 0} (seen : D → List ℕ) (old new : KeptDisk S D) (added : List Event) (after : Armed)
    (is : after ≡ after_events armed_disk (disk_of old.target) added) where
  now-is : (first : Armed) (past : List Event) → disk_of old.target ≡ after_events armed_disk first past
      → after ≡ after_events armed_disk first (past ++ added)
  now-is first past e =
      is ∙ ap (λ (d : Armed). after_events armed_disk d added) e ∙ sym (after-both first past added)

  pub crash-leaves : (moment : D → ℕ) (left_since : D → ℕ → List ℕ → Type 0) (first : Armed)
      (past : List Event) (least : ℕ)
      → LeavesOnly moment left_since old.journal.device new.journal.device
      (IsBeforeOr (seen old.journal.device) after)
      → HasHistory seen old first past least
      → LeavesOnly moment left_since old.journal.device new.journal.device
      (HasFirstEvents first (past ++ added) least)
  crash-leaves moment left_since first past least leaves has =
      weaker moment left_since old.journal.device new.journal.device
      (IsBeforeOr (seen old.journal.device) after) (HasFirstEvents first (past ++ added) least) leaves
      (some-in first past added least (seen old.journal.device) after has.file
      (now-is first past has.memory))

  pub history-goes-on : (flushed : Bool) (first : Armed) (past : List Event) (least : ℕ)
      → disk_of new.target ≡ after
      → IsBeforeOr (seen old.journal.device) after (seen new.journal.device)
      → (flushed ≡ true → opened (seen new.journal.device) ≡ Some (powered after))
      → HasHistory seen old first past least
      → HasHistory seen new first (past ++ added) (cond flushed (length (past ++ added)) least)
  history-goes-on flushed first past least e here all has =
      let now = now-is first past has.memory in
      record {
        memory = e ∙ now;
        file = in-file first past added least (seen old.journal.device) after has.file now flushed
            (seen new.journal.device) here all;
      }

  -- a call whose events are in memory if the disk lives, and that a crash may stop at any moment
  pub adds-events : (moment : D → ℕ) (left_since : D → ℕ → List ℕ → Type 0) (flushed : Bool)
      → (IsAlive old → LeavesOnly moment left_since old.journal.device new.journal.device
      (IsBeforeOr (seen old.journal.device) after))
      → (IsAlive new → (disk_of new.target ≡ after)
      × (IsBeforeOr (seen old.journal.device) after (seen new.journal.device)
      × (flushed ≡ true → opened (seen new.journal.device) ≡ Some (powered after))))
      → AddsEvents seen moment left_since old new added flushed
  adds-events moment left_since flushed leaves now = record {
    history = λ alive first past least has. let done = now alive in
        history-goes-on flushed first past least done.0 done.1.0 done.1.1 has;
    crash = λ alive first past least has.
        crash-leaves moment left_since first past least (leaves alive) has;
  }

-- ---- A command

pub sent-is : (disk : Armed) (call : Call) (i : ℕ) (cdb data_out : List ℕ) → IsSent call i cdb data_out
    → (armed_step disk i cdb data_out).after ≡ after_events armed_disk disk (Command call ∷ [])
sent-is disk call i cdb data_out sent =
    sym (ap (λ n. (armed_step disk n call.cdb.now call.data_out.now).after) sent.same_initiator
    ∙ ap (λ l. (armed_step disk i l call.data_out.now).after) sent.same_cdb
    ∙ ap (λ l. (armed_step disk i cdb l).after) sent.same_data_out)

-- ---- From a moment on at which the file stands for the disk

pub history-begins : {S D : Type 0} (seen : D → List ℕ) (start : KeptDisk S D)
    → opened (seen start.journal.device) ≡ Some (powered (disk_of start.target))
    → HasHistory seen start (disk_of start.target) [] 0
history-begins seen start opened = record {
  memory = refl;
  file = record {
    count = 0;
    at_least = omega arith;
    at_most = omega arith;
    opens = opened;
  };
}

counted : (past added : List Event) (has_flushed : Bool) (least : ℕ)
    → cond has_flushed (length (past ++ added)) least
    ≡ cond has_flushed (length past + length added) least
counted past added has_flushed least =
    ap (λ n. cond has_flushed n least) (length-append past added)

module _ {S D : Type 0} (seen : D → List ℕ) (moment : D → ℕ) (left_since : D → ℕ → List ℕ → Type 0) where
  pub alive-after : (old : KeptDisk S D) (calls : List (Done S D)) → IsAlive old
      → AreDone seen moment left_since old calls → IsAlive (disk_after old calls)
  alive-after old [] alive done = alive
  alive-after old (call ∷ calls) alive done = alive-after call.disk calls done.1 done.2

  pub history-after : (first : Armed) (past : List Event) (least : ℕ) (old : KeptDisk S D)
      (calls : List (Done S D)) → AreDone seen moment left_since old calls
      → HasHistory seen old first past least
      → HasHistory seen (disk_after old calls) first (past ++ events_of calls)
      (flushed_events (length past) least calls)
  history-after first past least old [] done has =
      subst (λ (l : List Event). HasHistory seen old first l least) (sym (append-nil past)) has
  history-after first past least old (call ∷ calls) done has =
      let now = past ++ call.added in
      let n = length past + length call.added in
      let next = done.0.history done.1 first past least has in
      let rest = history-after first now (cond call.has_flushed n least) call.disk calls done.2
      (subst (λ m. HasHistory seen call.disk first now m)
      (counted past call.added call.has_flushed least) next) in
      subst (λ (l : List Event). HasHistory seen (disk_after call.disk calls) first l
      (flushed_events n (cond call.has_flushed n least) calls))
      (append_assoc past call.added (events_of calls))
      (subst (λ m. HasHistory seen (disk_after call.disk calls) first (now ++ events_of calls)
      (flushed_events m (cond call.has_flushed n least) calls)) (length-append past call.added) rest)

  pub crashes-leave : (start : KeptDisk S D) → IsAlive start
      → HasHistory seen start (disk_of start.target) [] 0
      → CrashesLeaveFirstEvents seen moment left_since start
  crashes-leave start alive has = record {
    crash = λ calls done next adds.
        adds.crash (alive-after start calls alive done) (disk_of start.target) (events_of calls)
        (flushed_events 0 0 calls) (history-after (disk_of start.target) [] 0 start calls done has);
  }
