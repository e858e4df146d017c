-- A call on the file that is handed out, and a compaction that goes on.
use Rattle.std.proofs.Common.{◌≡◌, ℕ, true, false, List, [], ◌∷◌, ◌++◌, sym, ap, subst, ◌∙◌}
use Rattle.std.proofs.Common.{Option, Some, None, Result, Ok, Err, refl, ⊎_elim, suc, arith}
use Rattle.std.proofs.Common.{length, ◌+◌}
use Rattle.std.specs.Prelude.{◌≤◌, ◌<◌, ◌⊎◌, ◌-◌, IfNone, IfSome, reverse, take}
use Rattle.std.proofs.lemmas.Grind.{reverse_onto}
use Rattle.std.proofs.lemmas.List.{append_assoc}
use Rattle.sg_file.specs.Calls.{Call as FileCall}
use Rattle.sg_file.specs.History as history
use Rattle.sg_file.specs.Moments.{only_now}
use Rattle.sg_journal.specs.BatchValue.{BatchValue}
use Rattle.sg_journal.specs.Journal.{IsHead, found}
use Rattle.sg_journal.specs.JournalState.{HasBatches, HasTail, IsDurable}
use Rattle.sg_journal.specs.declared.journal.Journal.{Journal}
use Rattle.sg_changes.specs.KeptFields.{KeptFields}
use Rattle.sg_kept.proofs.CompactionLemmas.{then-leaves}
use Rattle.sg_kept.proofs.MomentsLemmas.{no-call}
use Rattle.sg_kept.proofs.OpenedLemmas.{opened-same}
use Rattle.sg_kept.specs.Compaction.{IsDraftOf, StandsFor, longest_of}
use Rattle.sg_kept.specs.Disk.{IsAlive, IsDead}
use Rattle.sg_kept.specs.Kept.{kept}
use Rattle.sg_kept.specs.Opened.{opened}
use Rattle.sg_queue.specs.NextCall.{HandsOut}
use Rattle.sg_queue.specs.QueueFields.{QueueFields, all_calls, has_any}
use Rattle.sg_queue.specs.QueuedCall.{call_as}
use Rattle.sg_queue.specs.declared.call.QueuedCall.{QueuedCall}
use Rattle.sg_queue.specs.declared.queue.TooShort.{TooShort}
use Rattle.sg_target.specs.Armed.{Armed}
use Rattle.sg_target.specs.Target.{disk_of}
use Rattle.sg_embed.specs.FileDisk.{Compacts, CompactsOn}
use Rattle.sg_embed.specs.FileDisk.{IsBetweenSteps, IsReady, QueuedDevice, QueuedDisk}
use Rattle.sg_embed.specs.FileDisk.{calls_on, draft, left_since, may_leave, moment, seen}

pub if-ended : {P : Type 0} (to : Option ℕ) → IfNone to P → to ≡ None → P
if-ended (Some next) p none = absurd cc
if-ended None p none = p

-- ---- A call is handed out

pub handed-out : (refused waiting made : List FileCall) (call : FileCall)
    → refused ++ reverse waiting ++ call ∷ made ≡ refused ++ reverse (call ∷ waiting) ++ made
handed-out refused waiting made call =
    sym (ap (λ (l : List FileCall). refused ++ l ++ made) (reverse_onto waiting call [])
    ∙ (ap (λ (l : List FileCall). l ++ made) (sym (append_assoc refused (reverse waiting) (call ∷ [])))
    ∙ append_assoc (refused ++ reverse waiting) (call ∷ []) made))

-- The same journal with other calls.
abbrev pub with-file : Journal QueuedDevice → QueueFields → Journal QueuedDevice
with-file journal queue = record journal { device = record { file = queue } }

same-batches : (journal : Journal QueuedDevice) (queue : QueueFields)
    → all_calls queue ≡ calls_on journal.device → (bs ws : List (List ℕ))
    → HasBatches seen may_leave journal bs ws → HasBatches seen may_leave (with-file journal queue) bs ws
same-batches journal queue same bs ws has = record {
  valid = has.valid;
  crash = subst (λ (calls : List FileCall). (c : List ℕ) → history.may_leave calls c → found c ≡ Ok bs)
      (sym same) has.crash;
  found = subst (λ (calls : List FileCall). found (history.seen calls) ≡ Ok bs) (sym same) has.found;
  tail = subst (λ (calls : List FileCall).
      HasTail journal.tail journal.sector journal.end (history.seen calls) bs ws) (sym same)
      has.tail;
  durable = subst (λ (calls : List FileCall). IsDurable journal.tail (journal.end + journal.sector)
      (history.seen calls) (history.may_leave calls)) (sym same) has.durable;
  length = has.length ∙ ap (λ (calls : List FileCall). length (history.seen calls)) (sym same);
}

same-stands : (journal : Journal QueuedDevice) (queue : QueueFields)
    → all_calls queue ≡ calls_on journal.device → (left : KeptFields)
    → StandsFor seen may_leave journal left → StandsFor seen may_leave (with-file journal queue) left
same-stands journal queue same left s = record {
  batches = s.batches;
  stands = same-batches journal queue same s.batches [] s.stands;
  files = s.files;
}

same-draft : (journal : Journal QueuedDevice) (queue : QueueFields)
    → all_calls queue ≡ calls_on journal.device → (batch : BatchValue) (disk : Armed) (next : ℕ)
    → IsDraftOf seen may_leave draft journal batch disk next
    → IsDraftOf seen may_leave draft (with-file journal queue) batch disk next
same-draft journal queue same batch disk next s =
    let d = s.drafted in
    record {
      drafted = record {
        batches = d.batches;
        drafted = d.drafted;
        drafts = record {
          waiting = d.drafts.waiting;
          stands = same-batches journal queue same d.batches d.drafts.waiting d.drafts.stands;
          drafts = subst (λ (calls : List FileCall). IsHead journal.sector (history.draft calls) d.drafted)
              (sym same) d.drafts.drafts;
          length = d.drafts.length
              ∙ ap (λ (calls : List FileCall). length (history.draft calls)) (sym same);
        };
        leaves = d.leaves;
        sector = d.sector;
      };
      within = s.within;
      room = s.room;
      weight = s.weight;
    }

-- It is as ready as before if its calls are the same.
pub same-between : (disk : QueuedDisk) (queue : QueueFields) (next : Option ℕ)
    → all_calls queue ≡ calls_on disk.journal.device → IsBetweenSteps disk next
    → IsBetweenSteps (record disk { journal = with-file disk.journal queue }) next
same-between disk queue None same between =
    λ alive.
    let is = between alive in
    let kept = is.kept in
    record {
      kept = record {
        batches = kept.batches;
        waiting = kept.waiting;
        stands = same-batches disk.journal queue same kept.batches kept.waiting kept.stands;
        left = kept.left;
        files = kept.files;
        waits = kept.waits;
        sector = kept.sector;
        limits = kept.limits;
      };
      room = is.room;
      scratch = is.scratch;
    }
same-between disk queue (Some next) same s = record {
  alive = s.alive;
  stands = same-stands disk.journal queue same (kept (disk_of disk.target)) s.stands;
  idle = s.idle;
  drafts = same-draft disk.journal queue same disk.batch (disk_of disk.target) next s.drafts;
  limits = s.limits;
  scratch = s.scratch;
}

-- The calls stay the same when one of them is handed out, or none.
pub same-calls : (old new : QueueFields) (before after : List ℕ)
    (result : Result (Option QueuedCall) TooShort) → HandsOut old new before after result
    → all_calls new ≡ all_calls old
same-calls old new before after (Ok (Some call)) h =
    ap (λ (l : List FileCall). l ++ reverse new.waiting ++ new.made) h.refused
    ∙ (ap (λ (l : List FileCall). old.refused ++ reverse new.waiting ++ l) h.made
    ∙ (handed-out old.refused new.waiting old.made (call_as call (take call.length after))
    ∙ ap (λ (l : List FileCall). old.refused ++ reverse l ++ old.made) (sym h.waiting.oldest)))
same-calls old new before after (Ok None) h =
    ap (λ (l : List FileCall). l ++ reverse new.waiting ++ new.made) h.refused
    ∙ (ap (λ (l : List FileCall). old.refused ++ reverse new.waiting ++ l) h.made
    ∙ ap (λ (l : List FileCall). old.refused ++ reverse l ++ old.made)
    (h.waiting.1 ∙ sym h.waiting.0))
same-calls old new before after (Err short) h =
    ap (λ (l : List FileCall). l ++ reverse new.waiting ++ new.made) h.refused
    ∙ (ap (λ (l : List FileCall). old.refused ++ reverse new.waiting ++ l) h.made
    ∙ ap (λ (l : List FileCall). old.refused ++ reverse l ++ old.made) h.waiting.1)

-- ---- A compaction, and a file that no call changes

-- A crash leaves what the file stands for.
abbrev Steady : QueuedDisk → Type 0
Steady disk =
    (c : List ℕ) → may_leave disk.journal.device c → opened c ≡ opened (seen disk.journal.device)

steady-between : (disk : QueuedDisk) (next : Option ℕ) → IsAlive disk → IsBetweenSteps disk next
    → Steady disk
steady-between disk None alive between =
    let s = (between alive).kept.stands in
    λ c left. opened-same c (seen disk.journal.device) (s.crash c left ∙ sym s.found)
steady-between disk (Some next) alive s =
    let s = s.stands.stands in
    λ c left. opened-same c (seen disk.journal.device) (s.crash c left ∙ sym s.found)

compacts-nothing : (disk : QueuedDisk) → IsAlive disk → Steady disk → Compacts disk disk
compacts-nothing disk alive steady = record {
  disk = refl;
  in_file = λ _. refl;
  any_moment = no-call moment left_since (may_leave disk.journal.device) disk.journal.device
      (λ c. opened c ≡ opened (seen disk.journal.device)) steady (only_now (calls_on disk.journal.device));
  later = omega arith;
  cause = λ dead. absurd cc;
}

pub compacts-then : (old mid new : QueuedDisk) → IsAlive mid → Compacts old mid → Compacts mid new
    → Compacts old new
compacts-then old mid new alive first second =
    let same = first.in_file alive in
    record {
      disk = second.disk ∙ first.disk;
      in_file = λ is. second.in_file is ∙ same;
      any_moment = then-leaves moment left_since old.journal.device mid.journal.device new.journal.device
          (λ c. opened c ≡ opened (seen old.journal.device))
          (λ c. opened c ≡ opened (seen mid.journal.device))
          (λ c. opened c ≡ opened (seen old.journal.device)) first.any_moment second.any_moment
          (λ c is. is) (λ c is. is ∙ same);
      later = omega (arith, first.later, second.later);
      cause = λ dead. omega (arith, first.later, second.cause dead);
    }

-- ---- A compaction that goes on

-- What holds before each step and after it.
pub record GoingOn (old new : QueuedDisk) (from to : Option ℕ) : Type 0 where
  pub between : IsBetweenSteps new to
  pub compacts : Compacts old new
  pub spared : (has_any old.journal.device.file.waiting ≡ true) ⊎ (from ≡ None)
      → (new ≡ old) × (to ≡ from)
  pub short : to ≡ None → IsAlive new → (from ≡ None → old.journal.length ≤ longest_of old)
      → new.journal.length ≤ longest_of new

pub going-begins : (disk : QueuedDisk) (next : Option ℕ) → IsAlive disk → IsBetweenSteps disk next
    → GoingOn disk disk next next
going-begins disk next alive between = record {
  between = between;
  compacts = compacts-nothing disk alive (steady-between disk next alive between);
  spared = λ _. (refl, refl);
  short = λ none _ short. short none;
}

pub going-further : (old mid new : QueuedDisk) (was next to : Option ℕ) (from : ℕ)
    → GoingOn old mid was next → next ≡ Some from
    → has_any mid.journal.device.file.waiting ≡ false → IsBetweenSteps new to → Compacts mid new
    → IfNone to (IsAlive new → new.journal.length ≤ longest_of new) → GoingOn old new was to
going-further old mid new was next to from goes is none between step short =
    let compacting = subst (IsBetweenSteps mid) is goes.between in
    record {
      between = between;
      compacts = compacts-then old mid new compacting.alive goes.compacts step;
      spared = λ why.
          let same = goes.spared why in
          ⊎_elim
          (λ some. let still : has_any mid.journal.device.file.waiting ≡ true =
          ap (λ (d : QueuedDisk). has_any d.journal.device.file.waiting) same.0 ∙ some in absurd cc)
          (λ idle. let other : Some from ≡ None = sym is ∙ (same.1 ∙ idle) in absurd cc) why;
      short = λ ended alive _. if-ended to short ended alive;
    }

pub gone-on : (old new : QueuedDisk) (from to : Option ℕ) → GoingOn old new from to
    → (has_any new.journal.device.file.waiting ≡ false → to ≡ None) → CompactsOn old new from to
gone-on old new from to goes waits = record {
  spared = goes.spared;
  compacts = goes.compacts;
  short = λ alive short. record { ended = λ none. goes.short none alive short; waits = waits };
}

-- The addresses that a compaction has still before it, and one more.
abbrev pub steps-left : QueuedDisk → Option ℕ → ℕ
steps-left disk None = 0
steps-left disk (Some next) = suc (disk.target.state.disk.capacity - next)

pub fewer-steps : (old new : QueuedDisk) (from : ℕ) (to : Option ℕ) → IsBetweenSteps new to
    → IfSome to (λ next. from < next) → Compacts old new
    → steps-left new to < steps-left old (Some from)
fewer-steps old new from None between further compacts = omega arith
fewer-steps old new from (Some next) between further compacts =
    let same = ap (λ (d : Armed). d.state.disk.capacity) compacts.disk in
    let within = between.drafts.within in
    omega (arith, same, within, further)

-- A dead disk compacts nothing.
pub no-next : (disk : QueuedDisk) (next : Option ℕ) → IsReady disk next → IsDead disk → next ≡ None
no-next disk None ready dead = refl
no-next disk (Some next) ready dead = let alive = ready.0.alive in absurd cc
