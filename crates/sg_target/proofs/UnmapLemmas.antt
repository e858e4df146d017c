-- Extents that are unmapped in turn.
use Rattle.std.proofs.Common.{◌≡◌, ◌≤◌, ◌<◌, ℕ, ◌*◌, ◌^◌, List, length, subst, ap, ◌∙◌, arith}
use Rattle.std.proofs.Math.Nat.{mul-le-mul}
use Rattle.sg_wire.specs.declared.extent.Extent.{Extent}
use Rattle.sg_store.specs.Disk.{Contents, Disk, unmapped}
use Rattle.sg_store.specs.Meter.{HasHeadroom, Meter, restarted}
use Rattle.sg_store.specs.declared.store.Counts.{Counts}
use Rattle.sg_store.specs.declared.store.TheConstants.{MAX_POOL}
use Rattle.sg_target.specs.Charge.{CostBounds, IsCharged, IsCounted}
use Rattle.sg_target.specs.MadeReplies.{executed_reply}
use Rattle.sg_target.specs.Ranges.{Range, ranges_in_turn}
use Rattle.sg_target.proofs.ChargingLemmas.{charged}
use Rattle.sg_target.proofs.InTurnLemmas.{length-ranges}
use Rattle.sg_target.specs.declared.reply.Reply.{Reply}

-- so few extents can be counted
pub has_headroom : (bounds : CostBounds) (pool i : ℕ) (contents : Contents) (extents : List Extent)
    (before after : Meter) → pool ≤ MAX_POOL → i ≤ 64 → length extents ≤ 64
    → after.counts.visits ≤ i * 2 ^ 41
    → IsCounted bounds pool (ranges_in_turn unmapped contents extents) before after → HasHeadroom after.counts
has_headroom bounds pool i contents extents before after p few short visits counted =
    let n = length-ranges unmapped contents extents in
    let links : pool * length (ranges_in_turn unmapped contents extents) ≤ MAX_POOL * 64 =
    mul-le-mul {m₂ = 64} p (omega arith) in
    record {
      visits = omega arith;
      probes = omega (arith, counted.charge.probes);
      links = omega (arith, counted.charge.links);
    }

-- the reply to a command that has restarted the counts and has unmapped extents
pub unmapping-charged : (bounds : CostBounds) (extents : List Extent) (before between : Disk)
    (meter mid after : Meter) (counts : Counts) (reply : Reply) → between ≡ before
    → mid ≡ restarted meter → 0 < length extents
    → IsCounted bounds between.pool (ranges_in_turn unmapped between.contents extents) mid after
    → counts ≡ after.counts → reply ≡ executed_reply 0 counts
    → IsCharged bounds before.pool (ranges_in_turn unmapped before.contents extents) meter after reply
unmapping-charged bounds extents before between meter mid after counts reply left anew some counted same is =
    let here =
    subst (λ (disk : Disk). IsCounted bounds disk.pool
    (ranges_in_turn unmapped disk.contents extents) mid after) left counted in
    let over : List Range = ranges_in_turn unmapped before.contents extents in
    let all = subst (λ (m : Meter). IsCounted bounds before.pool over m after) anew here in
    charged bounds before.pool over meter after reply
    (omega (arith, length-ranges unmapped before.contents extents))
    all.charge (λ good. all.least) (ap (λ (r : Reply). r.counts) is ∙ same)
