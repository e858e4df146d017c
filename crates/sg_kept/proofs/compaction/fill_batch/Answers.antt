use Rattle.std.proofs.Common.{refl, ap, arith}
use Rattle.sg_changes.specs.Snapshot.{kept_below}
use Rattle.sg_target.specs.Config.{ConfigFields}
use Rattle.sg_target.specs.Target.{disk_of}
use Rattle.sg_kept.specs.Kept.{kept}
use Rattle.sg_kept.proofs.CompactionLemmas.{leads-nothing}
use Rattle.sg_kept.proofs.compaction.fill_batch.Goals as goal

pub loop-next-init : goal.loop-next-init
loop-next-init g c =
    let whole = ap (λ (x : ConfigFields). x.blocks) c.config.ensures in
    record {
      after = omega arith;
      within = omega (arith, c.requires.on_disk, whole, c.blocks-capacity.ensures.value);
      first = λ _. refl;
      records = leads-nothing c.args.batch.now (kept_below (kept (disk_of c.args.target.now)) c.args.lba);
      most = omega arith;
      state = refl;
      faults = refl;
      scratch = refl;
    }
