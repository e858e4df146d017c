-- Laws of the definitions, in the subject's words.
use Rattle.std.specs.Prelude.{◌≡◌, ◌≢◌, ◌≤◌, ◌⊎◌, ℕ, ◌+◌, List, [], length, Bool, true, false}
use Rattle.std.specs.Prelude.{Some, None, Result, Ok}
use Rattle.sg_wire.specs.CdbDecoding.{class_in, command_in, command_of}
use Rattle.sg_wire.specs.Profile.{limits_of}
use Rattle.sg_wire.specs.declared.command.CdbFault.{CdbFault}
use Rattle.sg_wire.specs.declared.command.Class.{Class}
use Rattle.sg_wire.specs.declared.command.Class.TheVariants.{Writes}
use Rattle.sg_wire.specs.declared.command.Command.{Command}
use Rattle.sg_wire.specs.declared.command.Command.TheVariants as command
use Rattle.sg_wire.specs.declared.extent.Extent.{Extent}
use Rattle.sg_wire.specs.declared.sense.Format.{Format}
use Rattle.sg_store.specs.Disk.{Contents}
use Rattle.sg_store.specs.LbaStatus.{status_at}
use Rattle.sg_pages.specs.ModePage.{write_protected}
use Rattle.sg_units.specs.Access.{allows}
use Rattle.sg_units.specs.Attentions.{oldest, pending_for, without_oldest}
use Rattle.sg_target.specs.BlockCommands.{bytes_of}
use Rattle.sg_target.specs.Checks.{outranking_attention}
use Rattle.sg_target.specs.CommandLaws.{AreUsed, blocks_to_write}
use Rattle.sg_target.specs.DataOut.{moved}
use Rattle.sg_target.specs.Effect.{Effect, with_contents}
use Rattle.sg_target.specs.Semantics.{effect_of, medium_use}
use Rattle.sg_target.specs.State.{IsWithinLimits, State, config_of, profile_of}
use Rattle.sg_target.specs.Step.{outcome, refusal_answer, step}
use Rattle.sg_target.specs.declared.operation.Operation.{Operation}
use Rattle.sg_target.specs.declared.refusal.Reason.TheVariants.{SpaceAllocationFailed}
use Rattle.sg_target.specs.declared.refusal.Refusal.TheVariants.{CheckCondition}
use Rattle.sg_target.specs.declared.reply.Status.TheVariants.{Good, ReservationConflict}

-- An operation that does not write to the medium leaves the blocks as they are, whichever command
-- asks for it.
abbrev pub OnlyWritesChangeBlocks : Type 0
OnlyWritesChangeBlocks =
    (state : State) (initiator : ℕ) (operation : Operation) (effect : Effect)
    → (medium_use operation).writes ≡ false
    → effect_of state initiator operation ≡ Ok effect
    → effect.after.disk ≡ state.disk

-- Two maps give each address the same provisioning status. Only the data of mapped blocks may
-- differ.
abbrev pub HaveTheSameStatuses : (contents others : Contents) → Type 0
HaveTheSameStatuses contents others =
    (address : ℕ) → status_at contents address ≡ status_at others address

-- The answer to an operation that does not read from the medium does not depend on the data of the
-- blocks, whichever command asks for it. GET LBA STATUS returns statuses, and a WRITE needs space
-- for the blocks that are not mapped or anchored yet.
abbrev pub OnlyReadsReturnData : Type 0
OnlyReadsReturnData =
    (state : State) (contents : Contents) (initiator : ℕ) (operation : Operation)
    → IsWithinLimits state → IsWithinLimits (with_contents state contents)
    → HaveTheSameStatuses state.disk.contents contents
    → (medium_use operation).read ≡ None
    → let others = with_contents state contents in
    (outcome others initiator (effect_of others initiator operation)).answer
    ≡ (outcome state initiator (effect_of state initiator operation)).answer

-- The commands that may change blocks: each WRITE, WRITE AND VERIFY and WRITE SAME, COMPARE AND WRITE,
-- ORWRITE, WRITE ATOMIC, EXTENDED COPY, UNMAP, FORMAT UNIT and the erases of SANITIZE.
abbrev pub may_change_blocks : Result Command CdbFault → Bool
may_change_blocks (Ok (command.CompareAndWrite c)) = true
may_change_blocks (Ok (command.OrWrite16 c)) = true
may_change_blocks (Ok (command.ExtendedCopy c)) = true
may_change_blocks (Ok (command.WriteAtomic16 c)) = true
may_change_blocks (Ok (command.Write6 c)) = true
may_change_blocks (Ok (command.Write10 c)) = true
may_change_blocks (Ok (command.Write12 c)) = true
may_change_blocks (Ok (command.Write16 c)) = true
may_change_blocks (Ok (command.WriteAndVerify10 c)) = true
may_change_blocks (Ok (command.WriteAndVerify12 c)) = true
may_change_blocks (Ok (command.WriteAndVerify16 c)) = true
may_change_blocks (Ok (command.WriteSame10 c)) = true
may_change_blocks (Ok (command.WriteSame16 c)) = true
may_change_blocks (Ok (command.Unmap c)) = true
may_change_blocks (Ok (command.FormatUnit c)) = true
may_change_blocks (Ok (command.SanitizeBlockErase c)) = true
may_change_blocks (Ok (command.SanitizeCryptographicErase c)) = true
may_change_blocks _ = false

-- Every other command leaves the disk as it was, whatever its answer is: the capacity, the pool,
-- and each block with its provisioning status. SYNCHRONIZE CACHE and WRITE LONG do so too, although a
-- reservation treats them as commands that write.
abbrev pub OtherCommandsLeaveTheDisk : Type 0
OtherCommandsLeaveTheDisk =
    (state : State) (initiator : ℕ) (cdb data_out : List ℕ)
    → may_change_blocks (command_of cdb) ≡ false
    → (step state initiator cdb data_out).state.disk ≡ state.disk

-- The commands that may change the unit: those that may change blocks, MODE SELECT, PERSISTENT RESERVE
-- OUT and START STOP UNIT.
abbrev pub may_change_unit : Result Command CdbFault → Bool
may_change_unit (Ok (command.ModeSelect6 c)) = true
may_change_unit (Ok (command.ModeSelect10 c)) = true
may_change_unit (Ok (command.PersistentReserveOut c)) = true
may_change_unit (Ok (command.StartStopUnit c)) = true
may_change_unit read = may_change_blocks read

-- Nothing has changed but the conditions that are pending for one initiator.
pub record LeavesTheUnit (initiator : ℕ) (before after : State) : Type 0 where
  pub rest : after ≡ record before { attentions = after.attentions }
  pub others : (other : ℕ) → other ≢ initiator
      → pending_for after.attentions other ≡ pending_for before.attentions other

-- Every other command only clears conditions that are pending for its initiator, whatever its answer is.
abbrev pub OtherCommandsLeaveTheUnit : Type 0
OtherCommandsLeaveTheUnit =
    (state : State) (initiator : ℕ) (cdb data_out : List ℕ)
    → may_change_unit (command_of cdb) ≡ false
    → LeavesTheUnit initiator state (step state initiator cdb data_out).state

-- A WRITE over addresses that are all mapped or anchored takes no more of the pool (SBC-3, 4.7.4).
-- So no check refuses it for space: its answer is not SPACE ALLOCATION FAILED WRITE PROTECT, in
-- either format of sense data.
abbrev pub WritesOverUsedAddressesAreNeverRefusedForSpace : Type 0
WritesOverUsedAddressesAreNeverRefusedForSpace =
    (state : State) (initiator : ℕ) (cdb data_out : List ℕ) (named : Extent) (format : Format)
    → IsWithinLimits state → blocks_to_write (command_of cdb) ≡ Some named
    → AreUsed state (moved (config_of state) named data_out)
    → (step state initiator cdb data_out).answer
    ≢ refusal_answer format (CheckCondition SpaceAllocationFailed)

-- Nothing forbids an initiator a WRITE of some blocks. No unit attention is pending for it, and
-- the reservation, if there is one, lets it write. The unit is not stopped. The blocks are on the disk,
-- and the page Block Limits allows their number. The data-out has their bytes. SWP is not set. Each
-- address has a block of the pool.
pub record NothingForbids (state : State) (initiator : ℕ) (data_out : List ℕ) (out : Extent)
    : Type 0 where
  pub attention : oldest state.attentions initiator ≡ None
  pub reservation : allows state.reservations initiator Writes ≡ true
  pub ready : state.stopped ≡ false
  pub on_disk : out.lba + out.count ≤ state.disk.capacity
  pub not_too_long : out.count ≤ (limits_of (profile_of state)).transfer_length
  pub has_data : bytes_of out ≤ length data_out
  pub unprotected : write_protected state.modes ≡ false
  pub used : AreUsed state out

-- Such a WRITE ends with GOOD, if it is a command of the disk's profile.
abbrev pub WritesThatNothingForbidsEndWithGood : Type 0
WritesThatNothingForbidsEndWithGood =
    (state : State) (initiator : ℕ) (cdb data_out : List ℕ) (out : Extent)
    → IsWithinLimits state → blocks_to_write (command_in (profile_of state) cdb) ≡ Some out
    → NothingForbids state initiator data_out out
    → (step state initiator cdb data_out).answer.status ≡ Good

-- Nothing has changed, except that the oldest unit attention of an initiator may have been cleared.
-- The reservations of a state are its registrations, its reservation, PRGENERATION and APTPL.
pub record IsKept (before after : State) (initiator : ℕ) : Type 0 where
  pub identity : after.identity ≡ before.identity
  pub disk : after.disk ≡ before.disk
  pub modes : after.modes ≡ before.modes
  pub reservations : after.reservations ≡ before.reservations
  pub stopped : after.stopped ≡ before.stopped
  pub attentions : (after.attentions ≡ before.attentions)
      ⊎ (after.attentions ≡ without_oldest before.attentions initiator)

-- A command that does not end with GOOD leaves blocks, mode pages, registrations, reservation and
-- PRGENERATION as they are, and neither starts nor stops the unit.
abbrev pub RefusedChangesNothing : Type 0
RefusedChangesNothing =
    (state : State) (initiator : ℕ) (cdb data_out : List ℕ)
    → (step state initiator cdb data_out).answer.status ≢ Good
    → IsKept state (step state initiator cdb data_out).state initiator

-- Such a command returns no data-in either.
abbrev pub RefusedReturnsNothing : Type 0
RefusedReturnsNothing =
    (state : State) (initiator : ℕ) (cdb data_out : List ℕ)
    → (step state initiator cdb data_out).answer.status ≢ Good
    → (step state initiator cdb data_out).answer.data_in ≡ []

-- A command that ends with RESERVATION CONFLICT leaves the unit attentions as they are too.
abbrev pub ConflictChangesNothing : Type 0
ConflictChangesNothing =
    (state : State) (initiator : ℕ) (cdb data_out : List ℕ)
    → (step state initiator cdb data_out).answer.status ≡ ReservationConflict
    → (step state initiator cdb data_out).state ≡ state

-- A command of a class that the reservation forbids its initiator ends with RESERVATION CONFLICT,
-- unless a unit attention that outranks it is pending for the initiator. Other faults of the command
-- do not matter.
abbrev pub RefusedByReservation : Type 0
RefusedByReservation =
    (state : State) (initiator : ℕ) (cdb data_out : List ℕ) (class : Class)
    → class_in (profile_of state) cdb ≡ Some class
    → allows state.reservations initiator class ≡ false
    → outranking_attention state initiator cdb ≡ None
    → (step state initiator cdb data_out).answer.status ≡ ReservationConflict
