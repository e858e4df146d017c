-- An outcome, compared with the printed text, the status and the disk.
use Rattle.std.specs.Prelude.{◌≡◌, ℕ, List, Option, Result, Bool, IfOk}
use Rattle.sg_wire.specs.Printer.{PrintsText}
use Rattle.sg_wire.specs.Watched.{SendsText}
use Rattle.sg_wire.specs.declared.printer.Printer.{Printer}
use Rattle.sg_wire.specs.declared.watched.Watched.{Watched}
use Rattle.sg_target.specs.Armed.{Armed}
use Rattle.sg_run.specs.Outcome.{Outcome}

-- The text, the status and the disk are an outcome's. `contents` is what a writer holds.
pub record HasOutcome {W : Type 0} (contents : W → Option (List ℕ)) (old new : Printer W)
    (disk : Armed) (status : ℕ) (outcome : Outcome) : Type 0 where
  pub text : PrintsText contents old new outcome.text
  pub disk_is : disk ≡ outcome.disk
  pub status_is : status ≡ outcome.status

-- The same for one of two outcomes: memory was refused, or it was not.
pub record HasOutcomeUnlessOutOfMemory {W : Type 0} (contents : W → Option (List ℕ))
    (old new : Printer W) (disk : Armed) (status : ℕ) (outcome : (out_of_memory : Bool) → Outcome)
    : Type 0 where
  pub out_of_memory : Bool
  pub has : HasOutcome contents old new disk status (outcome out_of_memory)

-- A line was executed, and its text was written to a writer, or the writer failed within it.
pub record ExecutesLine {W E : Type 0} (contents : W → Option (List ℕ)) (old new : Watched W)
    (disk : Armed) (result : Result ℕ E) (outcome : (out_of_memory : Bool) → Outcome)
    : Type 0 where
  pub out_of_memory : Bool
  pub sent : SendsText contents old new result (outcome out_of_memory).text
  pub disk_is : disk ≡ (outcome out_of_memory).disk
  pub status_is : IfOk result (λ status. status ≡ (outcome out_of_memory).status)

-- Some text is printed. This is all that is known if the disk has failed.
pub record PrintsSome {W : Type 0} (contents : W → Option (List ℕ)) (old new : Printer W) : Type 0 where
  pub text : List ℕ
  pub prints : PrintsText contents old new text

-- Some text is written to a writer, or the writer failed within it.
pub record SendsSome {W A E : Type 0} (contents : W → Option (List ℕ)) (old new : Watched W)
    (result : Result A E) : Type 0 where
  pub text : List ℕ
  pub sends : SendsText contents old new result text

-- A call leaves a device server ready. If it works after the call, it has worked before.
pub record Serves {T : Type 0} (is_ready works : T → Type 0) (old new : T) : Type 0 where
  pub ready : is_ready new
  pub worked : works new → works old
