-- A disk that opening a file has found, or the stop that says why there is none.
use Rattle.std.proofs.Common.{◌≡◌, ◌<◌, ℕ, List, Result, Ok, Err, IfOk, IfErr, inl, refl, sym, subst}
use Rattle.std.specs.Borrow.{Bor}
use Rattle.sg_kept.specs.Refused.{IsTrueOf}
use Rattle.sg_kept.specs.declared.disk.KeptDisk.{KeptDisk}
use Rattle.sg_kept.specs.declared.opening.OpenDiskError.{OpenDiskError}
use Rattle.sg_kept.specs.declared.opening.OpenDiskError.TheVariants.{Device}
use Rattle.sg_run.specs.ScriptRun.{RunsScript, Snapshot}
use Rattle.sg_run.specs.declared.run.RunFault.{RunFault}
use Rattle.sg_target.specs.Armed.{Armed}
use Rattle.sg_target.specs.Target.{TargetFields}
use Rattle.sgrun.specs.DiskInFile.{HasNoDisk, IsSaved, RunsOnKeptDisk}
use Rattle.sgrun.specs.NewDisk.{by_run}
use Rattle.sgrun.specs.PowerCycles.{AreReadBack}
use Rattle.sgrun.specs.Reopened.{IsServing, disk_in}
use Rattle.sgrun.specs.Stops.{stop_of_disk}
use Rattle.sgrun.specs.declared.power_cycle.PowerCycle.{PowerCycle}
use Rattle.sgrun.specs.declared.stop.Stop.{Stop}

pub found : {Disk Error : Type 0} (P : Disk → Type 0) (stop_of : Error → Stop)
    (opening : Result Disk Error) (result : Result Disk Stop) → IfOk opening P
    → IfOk opening (λ disk. result ≡ Ok disk) → IfErr opening (λ e. result ≡ Err (stop_of e))
    → IfOk result P
found P stop_of (Ok disk) result has ok err = subst (λ r. IfOk r P) (sym ok) has
found P stop_of (Err e) result has ok err = subst (λ r. IfOk r P) (sym err) tt

pub no_disk : {Disk F : Type 0} (taken : F → List ℕ) (left failures : F → ℕ) (source : F)
    (name : Bor (List ℕ)) (opening : Result Disk (OpenDiskError × F)) (result : Result Disk Stop)
    → IfErr opening (λ e. IsTrueOf e.0 (taken e.1) (left e.1))
    → IfErr opening (λ e. e.0 ≡ Device → failures source < failures e.1)
    → IfOk opening (λ disk. result ≡ Ok disk)
    → IfErr opening (λ e. result ≡ Err (stop_of_disk name e.0))
    → IfErr result (HasNoDisk taken left failures source name)
no_disk taken left failures source name (Ok disk) result says cause ok err =
    subst (λ r. IfErr r (HasNoDisk taken left failures source name)) (sym ok) tt
no_disk taken left failures source name (Err e) result says cause ok err =
    subst (λ r. IfErr r (HasNoDisk taken left failures source name)) (sym err)
    (record { error = e.0; read = e.1; says = says; cause = cause; stop_is = refl })

-- the script was run on a disk that is still there, and then the disk was saved
pub run_and_saved : {S D : Type 0} (seen opening : D → List ℕ) (name : Bor (List ℕ)) (before : Armed)
    (ran_on after : Result (KeptDisk S D) Stop) (cycles : List (PowerCycle D)) (substitute : TargetFields)
    (old new : Armed → Snapshot) (ran : Result ℕ RunFault) (result : Result ℕ Stop)
    → IsServing ran_on → IsSaved seen after → disk_in substitute after ≡ disk_in substitute ran_on
    → (IsServing ran_on × AreReadBack seen opening cycles
    → RunsScript (old before) (new (disk_in substitute ran_on)) ran)
    → result ≡ by_run ran → RunsOnKeptDisk seen opening name before after cycles old new result
run_and_saved seen opening name before ran_on (Ok disk) cycles substitute old new ran result served saved
    same runs is =
    inl (record {
      ran = ran;
      runs = λ read. subst (λ d. RunsScript (old before) (new d) ran) (sym same) (runs (served, read));
      result_is = is;
      saved = saved;
    })
run_and_saved seen opening name before ran_on (Err gone) cycles substitute old new ran result served saved
    same runs is =
    absurd saved
