-- The calls on the file of the disk that a slot has.
use Rattle.std.proofs.Common.{◌≡◌, ℕ, false, List, Option, None, Some, Ok, Err, refl, sym, subst}
use Rattle.std.specs.Prelude.{unwrap_or}
use Rattle.sg_queue.specs.declared.call.QueuedCall.{QueuedCall}
use Rattle.sg_queue.specs.declared.queue.TooShort.{TooShort}
use Rattle.sg_embed.specs.Ends.{done_outcome}
use Rattle.sg_embed.specs.Executed.{HasDisk, IsHandedOut}
use Rattle.sg_embed.specs.FileRecords.{no_damage}
use Rattle.sg_embed.specs.Opening.{HasOpened, IsKeptOf, Opens}
use Rattle.sg_embed.specs.Served.{HandsOut, NeedsMore, calls_wait, device_of}
use Rattle.sg_embed.specs.declared.file_record.DamageRecord.{DamageRecord}
use Rattle.sg_embed.specs.declared.kept.Kept.{Kept}
use Rattle.sg_embed.specs.declared.outcome.Outcome.{Outcome}
use Rattle.sg_embed.specs.declared.served.Served.{Served}
use Rattle.sg_embed.specs.declared.served.Served.TheVariants.{Runs, Extents, InFile}
use Rattle.sg_embed.specs.declared.wanted.Wanted.{Wanted}
use Rattle.std.specs.Prelude.{length}

abbrev pub kept-of : Served → Kept
kept-of served = record { target = served }

-- A call is handed out.
pub handed : (held : Option Kept) (old new : Served) (before after : List ℕ) (call : QueuedCall)
    (device : ℕ) → held ≡ Some (kept-of old) → device ≡ unwrap_or (device_of old) 0
    → HandsOut before after old new (Ok (Some call))
    → IsHandedOut held (Some (kept-of new)) before after call device
handed held (Runs target) new before after call device was number out = let none = out.2 in absurd cc
handed held (Extents target) new before after call device was number out = let none = out.2 in absurd cc
handed held (InFile disk) (Runs target) before after call device was number out = absurd out
handed held (InFile disk) (Extents target) before after call device was number out = absurd out
handed held (InFile disk) (InFile left) before after call device was number out = record {
  disk = disk;
  left = left;
  was = was;
  is = refl;
  oldest = out;
  same = number;
}

-- No call waits.
pub none-waits : (held : Option Kept) (old new : Served) (before after : List ℕ)
    → held ≡ Some (kept-of old) → HandsOut before after old new (Ok None)
    → HasDisk held (λ served. calls_wait served ≡ false)
none-waits held (Runs target) new before after was out =
    record { disk = kept-of (Runs target); is = was; has = refl }
none-waits held (Extents target) new before after was out =
    record { disk = kept-of (Extents target); is = was; has = refl }
none-waits held (InFile disk) (Runs target) before after was out = absurd out
none-waits held (InFile disk) (Extents target) before after was out = absurd out
none-waits held (InFile disk) (InFile left) before after was out =
    record { disk = kept-of (InFile disk); is = was; has = out.0 }

-- The buffer is too short.
pub too-short : (held : Option Kept) (old new : Served) (before after : List ℕ) (short : TooShort)
    → held ≡ Some (kept-of old) → HandsOut before after old new (Err short)
    → HasDisk held (λ served. NeedsMore (length before) served)
too-short held (Runs target) new before after short was out = let none = out.2 in absurd cc
too-short held (Extents target) new before after short was out = let none = out.2 in absurd cc
too-short held (InFile disk) (Runs target) before after short was out = absurd out
too-short held (InFile disk) (Extents target) before after short was out = absurd out
too-short held (InFile disk) (InFile left) before after short was out =
    record { disk = kept-of (InFile disk); is = was; has = (out.0, out.1) }

-- There is a disk where there was none.
pub opens : (wanted : Wanted) (file : List ℕ) (old new : Option Kept) (kept : Kept) (damage : DamageRecord)
    (outcome : Outcome) → old ≡ None → new ≡ Some kept → IsKeptOf wanted file kept
    → outcome ≡ done_outcome kept.target → damage ≡ no_damage → Opens wanted file old new damage outcome
opens wanted file old new kept damage outcome was is opened ends nothing =
    let has : HasOpened wanted file kept damage outcome = record {
      disk = opened.disk;
      is = opened.is;
      opened = opened.opened;
      ends = ends;
      nothing = nothing;
    } in
    subst (λ (o : Option Kept). Opens wanted file o new damage outcome) (sym was)
    (subst (λ (n : Option Kept). Opens wanted file None n damage outcome) (sym is) has)
