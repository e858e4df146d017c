-- The effects of the commands of logical block provisioning (SBC-3, 4.7 and 5).
use Rattle.std.specs.Prelude.{ℕ, ◌==◌, ◌&&◌, List, [], ◌∷◌, Bool, Result, if◌then◌else◌}
use Rattle.std.specs.List.{list_all}
use Rattle.std.specs.Result.{result_map_both}
use Rattle.sg_wire.specs.FirstBytes.{first_bytes}
use Rattle.sg_wire.specs.UnmapList.{descriptor_data_length_at, named_extents, unmap_list}
use Rattle.sg_wire.specs.declared.unmap_list.UnmapListFault.{UnmapListFault}
use Rattle.sg_wire.specs.declared.unmap_list.UnmapListFault.TheVariants.{Short, TooManyDescriptors}
use Rattle.sg_wire.specs.declared.extent.Extent.{Extent}
use Rattle.sg_wire.specs.declared.profile.Rules.{Rules}
use Rattle.sg_store.specs.Disk.{Contents, anchored, filled, unmapped, zero_block}
use Rattle.sg_wire.specs.LbaStatus.{status_data}
use Rattle.sg_store.specs.LbaStatus.{lba_status}
use Rattle.sg_pages.specs.BlockDescriptor.{logical_block_length}
use Rattle.sg_target.specs.Effect.{Effect, no_effect, returning_up_to, storing, with_contents}
use Rattle.sg_target.specs.State.{State}
use Rattle.sg_target.specs.declared.refusal.Reason.TheVariants.{ParameterListLengthError}
use Rattle.sg_target.specs.declared.refusal.Reason.TheVariants.{InvalidFieldInParameterList}
use Rattle.sg_target.specs.declared.refusal.Refusal.{Refusal}
use Rattle.sg_target.specs.declared.refusal.Refusal.TheVariants.{CheckCondition}

-- ---- Lists of extents

-- A change of the contents over a range of addresses.
abbrev pub Change : Type 0
Change = Contents → (lba count : ℕ) → Contents

-- The contents after extents were changed in turn.
abbrev pub changed_in_turn : Change → Contents → List Extent → Contents
changed_in_turn change contents [] = contents
changed_in_turn change contents (extent ∷ rest) =
    changed_in_turn change (change contents extent.lba extent.count) rest

-- ---- Unmapping

-- It gives blocks back to the pool, so it needs no space.
-- Choice (SBC-3, 5.28): UNMAP may leave blocks mapped, or anchor them.
abbrev pub unmapping : State → List Extent → Effect
unmapping state extents = record (no_effect state) {
  after = with_contents state (changed_in_turn unmapped state.disk.contents extents);
}

-- ---- Anchoring

abbrev pub anchoring : State → List Extent → Effect
anchoring state extents =
    storing state (changed_in_turn anchored state.disk.contents extents)

-- ---- The parameter list of UNMAP

-- The sense data of each fault. Too many descriptors are an invalid UNMAP BLOCK DESCRIPTOR DATA
-- LENGTH.
abbrev pub unmap_list_refusal : UnmapListFault → Refusal
unmap_list_refusal Short = CheckCondition ParameterListLengthError
unmap_list_refusal TooManyDescriptors =
    CheckCondition (InvalidFieldInParameterList descriptor_data_length_at)

-- The extents that a list names, or the refusal. If descriptors of no block are ignored, only the
-- others are left.
abbrev pub listed_extents : Rules → (list : List ℕ) → Result (List Extent) Refusal
listed_extents rules list =
    result_map_both (named_extents rules.unmap_ignores_empty_extents) unmap_list_refusal
    (unmap_list list)

-- ---- WRITE SAME

-- Each block of an extent is replaced by one block.
abbrev pub filling : State → Extent → (block : List ℕ) → Effect
filling state extent block =
    storing state (filled state.disk.contents extent.lba extent.count block)

-- The block is the first of data-out.
abbrev pub block_out : (data_out : List ℕ) → List ℕ
block_out data_out = first_bytes logical_block_length data_out

-- The block of a WRITE SAME. With NDOB 1 there is no data-out, and the block is zeros.
abbrev pub same_block : (ndob : Bool) → (data_out : List ℕ) → List ℕ
same_block ndob data_out = if ndob then zero_block else block_out data_out

-- With UNMAP 1, blocks are unmapped in place of being written with zeros. They are read as zeros
-- then.
-- Choice (SBC-3, 5.43): WRITE SAME with UNMAP 1 may write the zeros.
unfoldable pub unmaps : (unmap : Bool) (block : List ℕ) → Bool
unmaps unmap block = unmap && list_all (λ byte. byte == 0) block

-- ---- GET LBA STATUS

-- It returns which blocks are mapped, from an address on.
abbrev pub reporting_status : State → (start allocation_length : ℕ) → Effect
reporting_status state start n = returning_up_to state n (status_data (lba_status state.disk start))
