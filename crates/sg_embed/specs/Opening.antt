-- A disk in a file that C has read: an empty file becomes a new disk, and another file has to have a disk.
use Rattle.std.specs.Prelude.{◌≡◌, ◌⊎◌, ◌<◌, ℕ, false, List, [], ◌∷◌, length, Option, None, Some, Ok, Err}
use Rattle.sg_faults.specs.Faults.{no_faults}
use Rattle.sg_kept.specs.Disk.{longest_file}
use Rattle.sg_kept.specs.Opened.{opened}
use Rattle.sg_kept.specs.Opening.{HasStarted}
use Rattle.sg_kept.specs.Refused.{IsTrueOf}
use Rattle.sg_kept.specs.declared.opening.MakeError.{MakeError}
use Rattle.sg_kept.specs.declared.opening.OpenDiskError.{OpenDiskError}
use Rattle.sg_kept.specs.declared.opening.OpenDiskError.TheVariants.{Device, TooLong}
use Rattle.sg_target.specs.Armed.{Armed}
use Rattle.sg_target.specs.Config.{ConfigFields}
use Rattle.sg_target.specs.NewState.{new_state}
use Rattle.sg_target.specs.State.{config_of}
use Rattle.sg_embed.specs.Ends.{done_outcome}
use Rattle.sg_embed.specs.FileDisk.{FileDiskFields, armed_in, may_leave, seen}
use Rattle.sg_embed.specs.FileRecords.{damage_of, no_damage}
use Rattle.sg_embed.specs.Outcome.{making_outcome, opening_outcome}
use Rattle.sg_embed.specs.Wanted.{compared, wanted_config}
use Rattle.sg_embed.specs.declared.file_record.DamageRecord.{DamageRecord}
use Rattle.sg_embed.specs.declared.kept.Kept.{Kept}
use Rattle.sg_embed.specs.declared.opening.OpenFault.{OpenFault}
use Rattle.sg_embed.specs.declared.opening.OpenFault.TheVariants.{NotRead, Refused}
use Rattle.sg_embed.specs.declared.outcome.Outcome.{Outcome}
use Rattle.sg_embed.specs.declared.outcome.Outcome.TheVariants.{DiskExists, OutOfMemory}
use Rattle.sg_embed.specs.declared.served.Served.TheVariants.{InFile}
use Rattle.sg_embed.specs.declared.wanted.Wanted.{Wanted}

-- ---- A disk

-- The disk is the new one that is asked for. No fault is armed on it.
pub record IsMade (wanted : Wanted) (disk : Armed) : Type 0 where
  pub config : ConfigFields
  pub asked : wanted_config wanted ≡ Ok config
  pub new : disk ≡ record { state = new_state config; faults = no_faults }

-- Opening the file finds the disk, and it has what is asked for.
pub record IsFound (wanted : Wanted) (file : List ℕ) (disk : Armed) : Type 0 where
  pub opened : opened file ≡ Some disk
  pub agrees : compared wanted (config_of disk.state) ≡ Ok tt

abbrev pub IsDiskOf : Wanted → (file : List ℕ) → Armed → Type 0
IsDiskOf wanted [] disk = IsMade wanted disk
IsDiskOf wanted (byte ∷ bytes) disk = IsFound wanted (byte ∷ bytes) disk

-- A disk that is ready for its first command. A new one has written its file: those calls wait.
pub record IsOpened (wanted : Wanted) (file : List ℕ) (disk : FileDiskFields) : Type 0 where
  pub started : HasStarted seen may_leave disk.kept
  pub is : IsDiskOf wanted file (armed_in disk)
  pub device : disk.device ≡ wanted.device
  -- Its file is written afresh step by step. No compaction is under way.
  pub by_steps : disk.kept.compacts ≡ false
  pub idle : disk.next ≡ None

-- ---- No disk

-- What an error says of a file. Reading a file in memory never fails.
abbrev pub IsTrueOfFile : OpenDiskError → (file : List ℕ) → Type 0
IsTrueOfFile Device file = ⊥
IsTrueOfFile TooLong file = longest_file < length file
IsTrueOfFile error file = IsTrueOf error file 0

-- The disk of a file is not as asked for.
pub record IsOther (wanted : Wanted) (file : List ℕ) (outcome : Outcome) : Type 0 where
  pub disk : Armed
  pub opened : opened file ≡ Some disk
  pub differs : compared wanted (config_of disk.state) ≡ Err outcome

-- There is no such new disk, or the making has failed.
abbrev pub IsNotMade : Wanted → Outcome → Type 0
IsNotMade wanted outcome =
    (wanted_config wanted ≡ Err outcome) ⊎ ((error : MakeError) × (outcome ≡ making_outcome error))

abbrev pub IsRefused : Wanted → (file : List ℕ) → Outcome → Type 0
IsRefused wanted [] outcome = IsNotMade wanted outcome
IsRefused wanted (byte ∷ bytes) outcome = IsOther wanted (byte ∷ bytes) outcome

-- Why there is no disk. Each fault is true of the file.
abbrev pub IsNotOpened : Wanted → (file : List ℕ) → OpenFault → Type 0
IsNotOpened wanted file (Refused outcome) = (outcome ≡ OutOfMemory) ⊎ IsRefused wanted file outcome
IsNotOpened wanted file (NotRead error) = IsTrueOfFile error file

-- How C learns of it.
abbrev pub fault_outcome : OpenFault → Outcome
fault_outcome (Refused outcome) = outcome
fault_outcome (NotRead error) = opening_outcome error

abbrev pub fault_damage : OpenFault → DamageRecord
fault_damage (Refused outcome) = no_damage
fault_damage (NotRead error) = damage_of error

-- ---- The call

-- There is a disk in the file now. If it is a new one, calls on its file wait.
pub record HasOpened (wanted : Wanted) (file : List ℕ) (left : Kept) (damage : DamageRecord)
    (outcome : Outcome) : Type 0 where
  pub disk : FileDiskFields
  pub is : left ≡ record { target = InFile disk }
  pub opened : IsOpened wanted file disk
  pub ends : outcome ≡ done_outcome left.target
  pub nothing : damage ≡ no_damage

-- There is none, and the outcome and the damage say why.
pub record HasNotOpened (wanted : Wanted) (file : List ℕ) (damage : DamageRecord) (outcome : Outcome)
    : Type 0 where
  pub fault : OpenFault
  pub says : IsNotOpened wanted file fault
  pub ends : outcome ≡ fault_outcome fault
  pub place : damage ≡ fault_damage fault

-- What a slot has before and after it, the damage that it names, and its outcome.
abbrev pub Opens : Wanted → (file : List ℕ) → (old new : Option Kept) → DamageRecord → Outcome → Type 0
Opens wanted file (Some disk) new damage outcome =
    (new ≡ Some disk) × (damage ≡ no_damage) × (outcome ≡ DiskExists)
Opens wanted file None (Some left) damage outcome = HasOpened wanted file left damage outcome
Opens wanted file None None damage outcome = HasNotOpened wanted file damage outcome

-- ---- Cited only by private contracts

abbrev pub IsNotMadeBy : Wanted → OpenFault → Type 0
IsNotMadeBy wanted (Refused outcome) = IsNotMade wanted outcome
IsNotMadeBy wanted (NotRead error) = ⊥

abbrev pub IsNotFound : Wanted → (file : List ℕ) → OpenFault → Type 0
IsNotFound wanted file (Refused outcome) = IsOther wanted file outcome
IsNotFound wanted file (NotRead error) = IsTrueOfFile error file

-- The disk in a file is kept for C.
pub record IsKeptOf (wanted : Wanted) (file : List ℕ) (kept : Kept) : Type 0 where
  pub disk : FileDiskFields
  pub is : kept ≡ record { target = InFile disk }
  pub opened : IsOpened wanted file disk
