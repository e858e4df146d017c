-- Laws of the commands on blocks: what `step` returns and leaves if one of them ends with GOOD.
use Rattle.std.specs.FinMap.{len}
use Rattle.std.specs.Int.{bit_at}
use Rattle.std.specs.Prelude.{◌≡◌, ◌≢◌, ◌≤◌, ℕ, ◌+◌, ◌-◌, ◌==◌, ◌||◌, Bool, true, false}
use Rattle.std.specs.Prelude.{if◌then◌else◌}
use Rattle.std.specs.Option.{option_map_or}
use Rattle.std.specs.Prelude.{List, [], ◌∷◌, length, slice_index_or}
use Rattle.std.specs.Prelude.{Option, Some, None, Result, Ok, Err}
use Rattle.sg_copy.specs.declared.copy_list.CopyList.{CopyList}
use Rattle.sg_copy.specs.declared.copy_list.Segment.{Segment}
use Rattle.sg_wire.specs.FirstBytes.{first_bytes}
use Rattle.sg_wire.specs.CdbDecoding.{command_of}
use Rattle.sg_wire.specs.UnmapList.{unmap_list}
use Rattle.sg_wire.specs.declared.command.CdbFault.{CdbFault}
use Rattle.sg_wire.specs.declared.command.Command.{Command}
use Rattle.sg_wire.specs.declared.command.Command.TheVariants as command
use Rattle.sg_wire.specs.declared.command.provisioning.Unmap.{Unmap}
use Rattle.sg_wire.specs.declared.command.verify.ByteCheck.{ByteCheck}
use Rattle.sg_wire.specs.declared.command.verify.ByteCheck.TheVariants.{Nothing, DataOut}
use Rattle.sg_wire.specs.declared.extent.Extent.{Extent}
use Rattle.sg_store.specs.Disk.{block, block_at, block_length, blocks, lies_in, zero_block}
use Rattle.sg_store.specs.LbaStatus.{status_at}
use Rattle.sg_wire.specs.declared.lba_status.ProvisioningStatus.{ProvisioningStatus}
use Rattle.sg_wire.specs.declared.lba_status.ProvisioningStatus.TheVariants.{Mapped, Deallocated}
use Rattle.sg_wire.specs.declared.lba_status.ProvisioningStatus.TheVariants.{Anchored}
use Rattle.sg_target.specs.Alerts.{alerted}
use Rattle.sg_target.specs.Checks.{checked_effect}
use Rattle.sg_target.specs.BlockCommands.{destination_of}
use Rattle.sg_target.specs.Config.{ConfigFields}
use Rattle.sg_target.specs.DataOut.{moved}
use Rattle.sg_target.specs.CopyRequest.{list_asked}
use Rattle.sg_target.specs.Demands.{extent, extents_out}
use Rattle.sg_target.specs.Effect.{Effect, with_contents}
use Rattle.sg_target.specs.Laws.{lies_in_any}
use Rattle.sg_target.specs.ProvisioningCommands.{same_block, unmaps}
use Rattle.sg_target.specs.State.{IsWithinLimits, State, config_of, resources_of}
use Rattle.sg_target.specs.Step.{Step, step}
use Rattle.sg_target.specs.declared.refusal.Refusal.{Refusal}
use Rattle.sg_target.specs.declared.reply.Status.TheVariants.{Good}

-- ---- Words

-- A command of an initiator ends with GOOD.
abbrev pub EndsWithGood : State → (initiator : ℕ) → (cdb data_out : List ℕ) → Type 0
EndsWithGood state initiator cdb data_out =
    (step state initiator cdb data_out).answer.status ≡ Good

-- Some addresses have a status, and each is read as the block that is given for it. Every other address
-- is as it was. So are the mode pages, the registrations and the reservation. The unit attentions are, too,
-- unless the command of the initiator has crossed a threshold.
pub record Changes (initiator : ℕ) (before after : State) (addresses : ℕ → Bool)
    (status : ProvisioningStatus) (given : ℕ → List ℕ) : Type 0 where
  pub statuses : (address : ℕ) → status_at after.disk.contents address
      ≡ (if addresses address then status else status_at before.disk.contents address)
  pub blocks : (address : ℕ) → block after.disk.contents address
      ≡ (if addresses address then given address else block before.disk.contents address)
  pub rest : after
      ≡ alerted (resources_of before) initiator (with_contents before after.disk.contents)

-- ---- READ (SBC-3, 5.11 to 5.13; READ(6) of SBC-2)

-- The blocks of a READ(6), READ(10), READ(12) or READ(16).
abbrev pub blocks_to_read : Result Command CdbFault → Option Extent
blocks_to_read (Ok (command.Read6 short)) = Some (extent short.0 short.1)
blocks_to_read (Ok (command.Read10 c)) = Some (extent c.lba c.count)
blocks_to_read (Ok (command.Read12 c)) = Some (extent c.lba c.count)
blocks_to_read (Ok (command.Read16 c)) = Some (extent c.lba c.count)
blocks_to_read _ = None

-- They are the data-in, and nothing changes.
pub record ReturnsBlocks (before : State) (done : Step) (read : Extent) : Type 0 where
  pub data_in : done.answer.data_in ≡ blocks before.disk.contents read.lba read.count
  pub state : done.state ≡ before

abbrev pub ReadsReturnTheirBlocks : Type 0
ReadsReturnTheirBlocks =
    (state : State) (initiator : ℕ) (cdb data_out : List ℕ) (read : Extent)
    → blocks_to_read (command_of cdb) ≡ Some read → EndsWithGood state initiator cdb data_out
    → ReturnsBlocks state (step state initiator cdb data_out) read

-- ---- WRITE, WRITE AND VERIFY and WRITE ATOMIC (SBC-3, 5.33 to 5.39; WRITE(6) of SBC-2; SBC-4)

-- The blocks of a WRITE AND VERIFY, unless it asks for a comparison that is not supported.
abbrev pub verified_blocks : ByteCheck → Extent → Option Extent
verified_blocks Nothing extent = Some extent
verified_blocks DataOut extent = Some extent
verified_blocks _ extent = None

-- The blocks of a WRITE ATOMIC, unless it divides them at a boundary, which is not supported.
abbrev pub undivided_blocks : (boundary : ℕ) → Extent → Option Extent
undivided_blocks boundary extent = if boundary == 0 then Some extent else None

-- The blocks of a WRITE(6), WRITE(10), WRITE(12) or WRITE(16), of a WRITE AND VERIFY, and of a WRITE
-- ATOMIC.
abbrev pub blocks_to_write : Result Command CdbFault → Option Extent
blocks_to_write (Ok (command.Write6 short)) = Some (extent short.0 short.1)
blocks_to_write (Ok (command.Write10 c)) = Some (extent c.lba c.count)
blocks_to_write (Ok (command.Write12 c)) = Some (extent c.lba c.count)
blocks_to_write (Ok (command.Write16 c)) = Some (extent c.lba c.count)
blocks_to_write (Ok (command.WriteAndVerify10 c)) =
    verified_blocks c.byte_check (extent c.extent.lba c.extent.count)
blocks_to_write (Ok (command.WriteAndVerify12 c)) =
    verified_blocks c.byte_check (extent c.extent.lba c.extent.count)
blocks_to_write (Ok (command.WriteAndVerify16 c)) =
    verified_blocks c.byte_check (extent c.extent.lba c.extent.count)
blocks_to_write (Ok (command.WriteAtomic16 c)) = undivided_blocks c.boundary (extent c.lba c.count)
blocks_to_write _ = None

-- They are mapped, and each has its bytes of the data-out. On a disk that takes too little data-out that
-- holds for the blocks that data-out has in full, and every other block is as it was.
abbrev pub WritesLeaveTheirData : Type 0
WritesLeaveTheirData =
    (state : State) (initiator : ℕ) (cdb data_out : List ℕ) (named : Extent)
    → blocks_to_write (command_of cdb) ≡ Some named → EndsWithGood state initiator cdb data_out
    → let out = moved (config_of state) named data_out in
    Changes initiator state (step state initiator cdb data_out).state (lies_in out.lba out.count) Mapped
    (λ address. block_at data_out (address - out.lba))

-- Each block that the CDB names is on the disk, even if data-out has too few bytes for it.
abbrev pub WritesNameBlocksOfTheDisk : Type 0
WritesNameBlocksOfTheDisk =
    (state : State) (initiator : ℕ) (cdb data_out : List ℕ) (named : Extent)
    → blocks_to_write (command_of cdb) ≡ Some named → EndsWithGood state initiator cdb data_out
    → named.lba + named.count ≤ state.disk.capacity

-- Each address of an extent has a block of the pool: it is mapped or anchored.
abbrev pub AreUsed : State → Extent → Type 0
AreUsed state extent =
    (address : ℕ) → lies_in extent.lba extent.count address ≡ true
    → status_at state.disk.contents address ≢ Deallocated

-- A WRITE over such addresses takes no more of the pool (SBC-3, 4.7.4). So it ends with GOOD if it
-- passes the checks.
abbrev pub WritesOverUsedAddressesHaveSpace : Type 0
WritesOverUsedAddressesHaveSpace =
    (state : State) (initiator : ℕ) (cdb data_out : List ℕ) (named : Extent) (effect : Effect)
    → IsWithinLimits state → blocks_to_write (command_of cdb) ≡ Some named
    → AreUsed state (moved (config_of state) named data_out)
    → checked_effect state initiator cdb data_out ≡ Ok effect
    → EndsWithGood state initiator cdb data_out

-- ---- ORWRITE (SBC-3, 5.5)

-- The blocks of an ORWRITE.
abbrev pub blocks_to_or : Result Command CdbFault → Option Extent
blocks_to_or (Ok (command.OrWrite16 c)) = Some (extent c.lba c.count)
blocks_to_or _ = None

-- A bit of a byte, from bit 0 on, is 1. The bytes are a block, or the data-out.
abbrev pub is_set : (bytes : List ℕ) → (byte bit : ℕ) → Bool
is_set bytes byte bit = bit_at (slice_index_or bytes byte 0) bit == 1

-- A bit is 1 exactly if it was 1 in the old block, or is 1 in the block of the data-out. So no bit goes
-- from 1 to 0.
pub record SetsBits (old given left : List ℕ) : Type 0 where
  pub length : length left ≡ block_length
  pub bits : (byte bit : ℕ) → is_set left byte bit ≡ (is_set old byte bit || is_set given byte bit)
  pub none_cleared : (byte bit : ℕ) → is_set old byte bit ≡ true → is_set left byte bit ≡ true

-- Each of these blocks has the bits of the data-out set, too, and is mapped. Nothing more has changed,
-- unless the command has crossed a threshold.
pub record SetsTheBitsOfItsBlocks (initiator : ℕ) (before after : State) (out : Extent)
    (data_out : List ℕ) : Type 0 where
  pub its_blocks : (address : ℕ) → lies_in out.lba out.count address ≡ true
      → SetsBits (block before.disk.contents address) (block_at data_out (address - out.lba))
      (block after.disk.contents address)
  pub changes : Changes initiator before after (lies_in out.lba out.count) Mapped
      (block after.disk.contents)

abbrev pub OrWritesSetTheBitsOfTheirData : Type 0
OrWritesSetTheBitsOfTheirData =
    (state : State) (initiator : ℕ) (cdb data_out : List ℕ) (named : Extent) → IsWithinLimits state
    → blocks_to_or (command_of cdb) ≡ Some named → EndsWithGood state initiator cdb data_out
    → SetsTheBitsOfItsBlocks initiator state (step state initiator cdb data_out).state
    (moved (config_of state) named data_out) data_out

-- ---- UNMAP (SBC-3, 5.28)

-- ANCHOR says whether addresses that are unmapped are anchored, or deallocated (SBC-3, 4.7.4).
abbrev pub unmapped_status : (anchor : Bool) → ProvisioningStatus
unmapped_status anchor = if anchor then Anchored else Deallocated

-- The parameter list names some extents. Each address that lies in one of them is unmapped so, and is
-- read as zeros.
pub record UnmapsItsList (initiator : ℕ) (before after : State) (c : Unmap) (data_out : List ℕ)
    : Type 0 where
  pub extents : List Extent
  pub listed : unmap_list (first_bytes c.list_length data_out) ≡ Ok extents
  pub unmapped : Changes initiator before after (lies_in_any extents) (unmapped_status c.anchor)
      (λ address. zero_block)

abbrev pub UnmapsFollowTheirLists : Type 0
UnmapsFollowTheirLists =
    (state : State) (initiator : ℕ) (cdb data_out : List ℕ) (c : Unmap)
    → command_of cdb ≡ Ok (command.Unmap c) → EndsWithGood state initiator cdb data_out
    → UnmapsItsList initiator state (step state initiator cdb data_out).state c data_out

-- ---- WRITE SAME (SBC-3, 5.43 and 5.44)

-- The fields of a WRITE SAME(10) or WRITE SAME(16).
pub record WriteSameFields : Type 0 where
  pub extent : Extent
  pub anchor : Bool
  pub unmap : Bool
  pub ndob : Bool

abbrev pub fields_of : (anchor unmap ndob : Bool) → Extent → Option WriteSameFields
fields_of anchor unmap ndob extent =
    Some (record { extent = extent; anchor = anchor; unmap = unmap; ndob = ndob })

abbrev pub write_same_fields : Result Command CdbFault → Option WriteSameFields
write_same_fields (Ok (command.WriteSame10 c)) =
    fields_of c.anchor c.unmap false (extent c.lba c.count)
write_same_fields (Ok (command.WriteSame16 c)) =
    fields_of c.anchor c.unmap c.ndob (extent c.lba c.count)
write_same_fields _ = None

-- With UNMAP 1 and a block of zeros the addresses are unmapped, and otherwise they are mapped.
abbrev pub status_of_same : WriteSameFields → (block : List ℕ) → ProvisioningStatus
status_of_same c block = if unmaps c.unmap block then unmapped_status c.anchor else Mapped

-- Each address has that status, and is read as the block of the data-out, even if it is unmapped. With
-- NDOB it is read as zeros, because the block is zeros.
abbrev pub WriteSamesLeaveTheirBlock : Type 0
WriteSamesLeaveTheirBlock =
    (state : State) (initiator : ℕ) (cdb data_out : List ℕ) (c : WriteSameFields)
    → write_same_fields (command_of cdb) ≡ Some c → EndsWithGood state initiator cdb data_out
    → Changes initiator state (step state initiator cdb data_out).state
    (lies_in c.extent.lba c.extent.count)
    (status_of_same c (same_block c.ndob data_out)) (λ address. same_block c.ndob data_out)

-- ---- FORMAT UNIT and SANITIZE (SBC-3, 5.3 and 5.24)

-- FORMAT UNIT, and BLOCK ERASE and CRYPTOGRAPHIC ERASE of SANITIZE.
abbrev pub empties_disk : Result Command CdbFault → Bool
empties_disk (Ok (command.FormatUnit c)) = true
empties_disk (Ok (command.SanitizeBlockErase c)) = true
empties_disk (Ok (command.SanitizeCryptographicErase c)) = true
empties_disk _ = false

-- All blocks of the pool are free, as no address is mapped or anchored, and each block is read as zeros.
-- The mode pages, the registrations and the reservation are as they were. The unit attentions are, too,
-- unless the command of the initiator has crossed a threshold.
pub record IsEmptied (initiator : ℕ) (before after : State) : Type 0 where
  pub used : len after.disk.contents ≡ 0
  pub statuses : (address : ℕ) → status_at after.disk.contents address ≡ Deallocated
  pub blocks : (address : ℕ) → block after.disk.contents address ≡ zero_block
  pub rest : after
      ≡ alerted (resources_of before) initiator (with_contents before after.disk.contents)

abbrev pub FormatsEmptyTheDisk : Type 0
FormatsEmptyTheDisk =
    (state : State) (initiator : ℕ) (cdb data_out : List ℕ) → IsWithinLimits state
    → empties_disk (command_of cdb) ≡ true → EndsWithGood state initiator cdb data_out
    → IsEmptied initiator state (step state initiator cdb data_out).state

-- ---- EXTENDED COPY (SPC-4, 6.5)

-- The segment of a list, if the list is sound and has one.
abbrev pub segment_asked : Result CopyList Refusal → Option Segment
segment_asked (Ok list) = list.segment
segment_asked (Err refusal) = None

abbrev pub segment_to_copy : ConfigFields → Result Command CdbFault → (data_out : List ℕ) → Option Segment
segment_to_copy config (Ok (command.ExtendedCopy c)) data_out =
    segment_asked (list_asked config (first_bytes c.list_length data_out))
segment_to_copy config _ data_out = None

-- Each block of the destination has what the block of the source had before the command, and is mapped.
-- Nothing more has changed, unless the command has crossed a threshold.
abbrev pub CopiesCopyTheirBlocks : Type 0
CopiesCopyTheirBlocks =
    (state : State) (initiator : ℕ) (cdb data_out : List ℕ) (segment : Segment)
    → segment_to_copy (config_of state) (command_of cdb) data_out ≡ Some segment
    → EndsWithGood state initiator cdb data_out
    → Changes initiator state (step state initiator cdb data_out).state
    (lies_in segment.destination segment.blocks) Mapped
    (λ address. block state.disk.contents (segment.source + (address - segment.destination)))

-- ---- All commands

-- The extents of a list, if it is sound.
abbrev pub sound_extents : Result (List Extent) Refusal → List Extent
sound_extents (Ok extents) = extents
sound_extents (Err refusal) = []

-- The blocks that each command writes if it ends with GOOD, on a disk of a configuration, with its
-- data-out. FORMAT UNIT and the erases of SANITIZE write all blocks. WRITE LONG marks its block, and leaves
-- the data. `moved` says what becomes of a WRITE and an ORWRITE with too little data-out.
abbrev pub blocks_written : ConfigFields → Result Command CdbFault → (data_out : List ℕ) → List Extent
blocks_written config (Ok (command.CompareAndWrite c)) data_out = extent c.lba c.count ∷ []
blocks_written config (Ok (command.ExtendedCopy c)) data_out =
    option_map_or (λ segment. destination_of segment ∷ [])
    (segment_to_copy config (Ok (command.ExtendedCopy c)) data_out) []
blocks_written config (Ok (command.FormatUnit c)) data_out = extent 0 config.blocks ∷ []
blocks_written config (Ok (command.OrWrite16 c)) data_out =
    moved config (extent c.lba c.count) data_out ∷ []
blocks_written config (Ok (command.SanitizeBlockErase c)) data_out = extent 0 config.blocks ∷ []
blocks_written config (Ok (command.SanitizeCryptographicErase c)) data_out =
    extent 0 config.blocks ∷ []
blocks_written config (Ok (command.Unmap c)) data_out =
    sound_extents (extents_out config c.list_length data_out)
blocks_written config (Ok (command.Write6 short)) data_out =
    moved config (extent short.0 short.1) data_out ∷ []
blocks_written config (Ok (command.Write10 c)) data_out =
    moved config (extent c.lba c.count) data_out ∷ []
blocks_written config (Ok (command.Write12 c)) data_out =
    moved config (extent c.lba c.count) data_out ∷ []
blocks_written config (Ok (command.Write16 c)) data_out =
    moved config (extent c.lba c.count) data_out ∷ []
blocks_written config (Ok (command.WriteAndVerify10 c)) data_out =
    moved config (extent c.extent.lba c.extent.count) data_out ∷ []
blocks_written config (Ok (command.WriteAndVerify12 c)) data_out =
    moved config (extent c.extent.lba c.extent.count) data_out ∷ []
blocks_written config (Ok (command.WriteAndVerify16 c)) data_out =
    moved config (extent c.extent.lba c.extent.count) data_out ∷ []
blocks_written config (Ok (command.WriteAtomic16 c)) data_out = extent c.lba c.count ∷ []
blocks_written config (Ok (command.WriteLong10 c)) data_out = extent c.lba 1 ∷ []
blocks_written config (Ok (command.WriteSame10 c)) data_out = extent c.lba c.count ∷ []
blocks_written config (Ok (command.WriteSame16 c)) data_out = extent c.lba c.count ∷ []
blocks_written config _ data_out = []

-- An address has the provisioning status that it had, and is read as before.
pub record IsUntouched (before after : State) (address : ℕ) : Type 0 where
  pub status : status_at after.disk.contents address ≡ status_at before.disk.contents address
  pub block : block after.disk.contents address ≡ block before.disk.contents address

-- Whatever its answer is, a command touches no address outside these blocks.
abbrev pub CommandsWriteOnlyTheirBlocks : Type 0
CommandsWriteOnlyTheirBlocks =
    (state : State) (initiator : ℕ) (cdb data_out : List ℕ) (address : ℕ)
    → lies_in_any (blocks_written (config_of state) (command_of cdb) data_out) address ≡ false
    → IsUntouched state (step state initiator cdb data_out).state address
