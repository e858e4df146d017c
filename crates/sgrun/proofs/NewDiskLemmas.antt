-- A script on a new disk.
use Rattle.std.proofs.Common.{◌≡◌, ℕ, Result, Err, inr, refl}
use Rattle.sg_run.specs.ScriptRun.{Snapshot}
use Rattle.sg_target.specs.Armed.{Armed}
use Rattle.sg_target.specs.Config.{ConfigFields}
use Rattle.sgrun.specs.NewDisk.{new_disk, RunsOnNewDisk, RunsUnlessRefused}
use Rattle.sgrun.specs.declared.stop.Stop.{Stop}
use Rattle.sgrun.specs.declared.stop.Stop.TheVariants.{OutOfMemory}

pub on_new_disk : (config : ConfigFields) (old new : Armed → Snapshot) (before after : Armed)
    (result : Result ℕ Stop) → before ≡ new_disk config
    → RunsUnlessRefused before after old new result → RunsOnNewDisk config old new result
on_new_disk config old new before after result is runs =
    record { disk = after; runs = rw is at runs }

pub refused_on_new_disk : (config : ConfigFields) (at : Armed → Snapshot) (result : Result ℕ Stop)
    → result ≡ Err OutOfMemory → RunsOnNewDisk config at at result
refused_on_new_disk config at result is =
    record { disk = new_disk config; runs = inr (record { kept = λ disk. refl; result_is = is }) }
