-- Why there is no script's status (docs/SCRIPT.md, exit status).
use Rattle.std.specs.Prelude.{ℕ, List, ◌++◌, codes, Option, Some, None, Result, Ok, Err}
use Rattle.std.specs.Borrow.{Bor}
use Rattle.std.specs.declared.io.ErrorKind.{ErrorKind}
use Rattle.std.specs.declared.io.ErrorKind.TheVariants.{OutOfMemory as NoMemory}
use Rattle.sg_kept.specs.declared.opening.MakeError.{MakeError}
use Rattle.sg_kept.specs.declared.opening.MakeError.TheVariants as make_fault
use Rattle.sg_kept.specs.declared.opening.OpenDiskError.{OpenDiskError}
use Rattle.sg_kept.specs.declared.opening.OpenDiskError.TheVariants as open_fault
use Rattle.sg_pages.specs.declared.identity.IdentityFault.{IdentityFault}
use Rattle.sg_run.specs.declared.run.RunFault.{RunFault}
use Rattle.sg_run.specs.declared.run.RunFault.TheVariants.{Read as ReadFault, Write as WriteFault}
use Rattle.sg_target.specs.declared.config.ConfigFault.{ConfigFault}
use Rattle.sg_target.specs.declared.config.ConfigFault.TheVariants.{Blocks as BlocksFault}
use Rattle.sg_target.specs.declared.config.ConfigFault.TheVariants.{Pool as PoolFault}
use Rattle.sg_tools.specs.declared.tool_fault.ToolFault.{ToolFault}
use Rattle.sg_tools.specs.declared.tool_fault.ToolFault.TheVariants.{OutOfMemory as NoMemoryFault}
use Rattle.sgrun.specs.declared.stop.Stop.{Stop}
use Rattle.sgrun.specs.declared.stop.Stop.TheVariants.{Usage, Number, Profile, Seed, Blocks}
use Rattle.sgrun.specs.declared.stop.Stop.TheVariants.{Pool, OtherBlocks, OtherPool, OtherProfile}
use Rattle.sgrun.specs.declared.stop.Stop.TheVariants.{OtherSeed, CannotOpen, Busy, NoDisk}
use Rattle.sgrun.specs.declared.stop.Stop.TheVariants.{CannotWrite, Read, Write, OutOfMemory}

-- The text that a stop prints to standard error after the program's name, and the program's exit
-- status.
pub record Row : Type 0 where
  pub message : List ℕ
  pub status : ℕ

abbrev pub row : List ℕ → ℕ → Row
row message status = record { message = message; status = status }

abbrev pub row_of : Stop → Row
row_of Usage = row (codes "usage") 1
row_of Number = row (codes "number") 1
row_of Profile = row (codes "profile") 1
row_of Seed = row (codes "seed") 1
row_of Blocks = row (codes "blocks") 1
row_of Pool = row (codes "pool") 1
row_of OtherBlocks = row (codes "blocks differ") 1
row_of OtherPool = row (codes "pool differs") 1
row_of OtherProfile = row (codes "profile differs") 1
row_of OtherSeed = row (codes "seed differs") 1
row_of (CannotOpen file) = row (codes "cannot open " ++ file.now) 15
row_of (Busy file) = row (codes "in use: " ++ file.now) 15
row_of (NoDisk file fault) = row (codes "cannot open " ++ file.now) 15
row_of (CannotWrite file) = row (codes "cannot write " ++ file.now) 15
row_of Read = row (codes "read fault") 15
row_of Write = row (codes "write fault") 15
row_of OutOfMemory = row (codes "out of memory") 99

-- The stop if the words of the command line can't be read: they are not UTF-8.
abbrev pub stop_of_words : ErrorKind → Stop
stop_of_words NoMemory = OutOfMemory
stop_of_words kind = Usage

-- The stop if words don't give options: clap does not accept them.
abbrev pub stop_of_options : ToolFault → Stop
stop_of_options NoMemoryFault = OutOfMemory
stop_of_options fault = Usage

-- The stop if a seed makes no names: it has too many bits.
abbrev pub stop_of_identity : IdentityFault → Stop
stop_of_identity fault = Seed

-- The stop if a disk can't have such a size.
abbrev pub stop_of_config : ConfigFault → Stop
stop_of_config BlocksFault = Blocks
stop_of_config PoolFault = Pool

-- The stop if the file of this name can't be opened.
abbrev pub stop_of_open : (file : Bor (List ℕ)) → ErrorKind → Stop
stop_of_open file NoMemory = OutOfMemory
stop_of_open file kind = CannotOpen file

-- The stop if the file of this name has no disk.
abbrev pub stop_of_disk : (file : Bor (List ℕ)) → OpenDiskError → Stop
stop_of_disk file open_fault.Memory = OutOfMemory
stop_of_disk file open_fault.Device = CannotOpen file
stop_of_disk file fault = NoDisk file fault

-- The stop if the file of this name was not made a disk.
abbrev pub stop_of_making : (file : Bor (List ℕ)) → MakeError → Stop
stop_of_making file make_fault.Memory = OutOfMemory
stop_of_making file make_fault.Device = CannotWrite file

-- What is wrong with the file. The program prints it after the message, with a colon between them.
abbrev pub fault_of : Stop → Option OpenDiskError
fault_of (NoDisk file fault) = Some fault
fault_of stop = None

-- The stop of a run that ended before its script did.
abbrev pub stop_of_run : RunFault → Stop
stop_of_run ReadFault = Read
stop_of_run WriteFault = Write

-- The program's exit status: the status of the script, or the status of the stop.
abbrev pub exit_status : Result ℕ Stop → ℕ
exit_status (Ok status) = status
exit_status (Err stop) = (row_of stop).status
