-- VERIFY (SBC-3, 5.29 to 5.31): what one that compares its blocks with data-out finds.
use Rattle.std.specs.Prelude.{◌≡◌, ℕ, List, take, Option, Some, None, Result, Ok}
use Rattle.sg_wire.specs.CdbDecoding.{command_of}
use Rattle.sg_wire.specs.declared.command.CdbFault.{CdbFault}
use Rattle.sg_wire.specs.declared.command.Command.{Command}
use Rattle.sg_wire.specs.declared.command.Command.TheVariants as command
use Rattle.sg_wire.specs.declared.command.verify.ByteCheck.{ByteCheck}
use Rattle.sg_wire.specs.declared.command.verify.ByteCheck.TheVariants.{DataOut}
use Rattle.sg_wire.specs.declared.extent.Extent.{Extent}
use Rattle.sg_target.specs.BlockCommands.{blocks_at, bytes_of}
use Rattle.sg_target.specs.DataOut.{moved}
use Rattle.sg_target.specs.Demands.{extent}
use Rattle.sg_target.specs.State.{IsWithinLimits, State, config_of}
use Rattle.sg_target.specs.Step.{Step, step}
use Rattle.sg_target.specs.declared.reply.Status.TheVariants.{Good}

-- The blocks of a VERIFY whose BYTCHK, 01b, asks for that.
abbrev pub compared_with_data : ByteCheck → Extent → Option Extent
compared_with_data DataOut named = Some named
compared_with_data _ named = None

abbrev pub blocks_to_compare : Result Command CdbFault → Option Extent
blocks_to_compare (Ok (command.Verify10 c)) =
    compared_with_data c.byte_check (extent c.extent.lba c.extent.count)
blocks_to_compare (Ok (command.Verify12 c)) =
    compared_with_data c.byte_check (extent c.extent.lba c.extent.count)
blocks_to_compare (Ok (command.Verify16 c)) =
    compared_with_data c.byte_check (extent c.extent.lba c.extent.count)
blocks_to_compare _ = None

-- Such a command ends with GOOD only if its blocks are the bytes of the data-out. Whatever its answer is, the
-- disk is as it was: the capacity, the pool, and each block with its provisioning status.
pub record IsCompared (before : State) (done : Step) (out : Extent) (data_out : List ℕ) : Type 0 where
  pub equal : done.answer.status ≡ Good → blocks_at before out ≡ take (bytes_of out) data_out
  pub disk : done.state.disk ≡ before.disk

-- Each VERIFY does so. On a disk that takes too little data-out that holds for the blocks that data-out has
-- in full.
abbrev pub VerifiesCompareTheirBlocks : Type 0
VerifiesCompareTheirBlocks =
    (state : State) (initiator : ℕ) (cdb data_out : List ℕ) (named : Extent)
    → IsWithinLimits state → blocks_to_compare (command_of cdb) ≡ Some named
    → IsCompared state (step state initiator cdb data_out) (moved (config_of state) named data_out)
    data_out
