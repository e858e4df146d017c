-- The mappings that the records of a table make, with the blocks of their slots.
use Rattle.std.specs.Prelude.{◌≡◌, ℕ, ◌+◌, List, [], ◌∷◌, ◌++◌, length, not, slice_index_or}
use Rattle.std.specs.Prelude.{slice_set}
use Rattle.std.specs.List.{filter}
use Rattle.std.specs.FinMap.{FinMap, from_entries}
use Rattle.std.specs.Ordering.{nat_cmp}
use Rattle.sg_store.specs.Disk.{Contents, Mapping, lies_in, zero_block}
use Rattle.sg_store.specs.Disk.Mapping.{Data, Anchored}
use Rattle.sg_wire.specs.declared.lba_status.ProvisioningStatus.{ProvisioningStatus}
use Rattle.sg_wire.specs.declared.lba_status.ProvisioningStatus.TheVariants.{Mapped}
use Rattle.sg_wire.specs.declared.lba_status.ProvisioningStatus.TheVariants.{Anchored as AnchoredStatus}
use Rattle.sg_table.specs.Occurrences.{IsEachOnce}
use Rattle.sg_table.specs.Records.{IsSorted, slots_of}
use Rattle.sg_table.specs.declared.run.Kind.{Kind}
use Rattle.sg_table.specs.declared.run.Kind.TheVariants.{Data as DataKind, Anchored as AnchoredKind}
use Rattle.sg_table.specs.declared.run.Run.{Run}

-- A value seen at an address, by the slot and the kind of its record.
abbrev pub Seen : Type 0 → Type 0
Seen X = (slot : ℕ) → Kind → X

-- The address of each record, with the value seen there.
abbrev pub entries_by : {X : Type 0} → Seen X → List Run → List (ℕ × X)
entries_by seen [] = []
entries_by seen (run ∷ records) = (run.start, seen run.first run.kind) ∷ entries_by seen records

abbrev pub contents_by : {X : Type 0} → Seen X → List Run → FinMap nat_cmp X
contents_by seen records = from_entries (entries_by seen records)

-- The mapping of an address in a record of a kind: a block of data, or none.
abbrev pub mapping_as : Kind → (block : List ℕ) → Mapping
mapping_as DataKind block = Data block
mapping_as AnchoredKind block = Anchored

-- Data is the block of the slot. No reader sees the block of an anchored address.
abbrev pub mapping_in : (blocks : List (List ℕ)) → Seen Mapping
mapping_in blocks slot kind = mapping_as kind (slice_index_or blocks slot zero_block)

-- The kind of the record of an address, by what the address has.
abbrev pub kind_of : Mapping → Kind
kind_of (Data block) = DataKind
kind_of Anchored = AnchoredKind

-- The blocks of the slots, with the block of an address in its slot. An anchored address has none.
abbrev pub filled_slot : (blocks : List (List ℕ)) → (slot : ℕ) → Mapping → List (List ℕ)
filled_slot blocks slot (Data block) = slice_set blocks slot block
filled_slot blocks slot Anchored = blocks

-- The contents of a disk with these records, and these blocks in the slots.
abbrev pub contents_of : List Run → (blocks : List (List ℕ)) → Contents
contents_of records blocks = contents_by (mapping_in blocks) records

-- The status of the addresses of a record of a kind.
abbrev pub status_of_kind : Kind → ProvisioningStatus
status_of_kind DataKind = Mapped
status_of_kind AnchoredKind = AnchoredStatus

-- The addresses that have a block of the pool, each with the number of its slot.
abbrev pub SlotNumbers : Type 0
SlotNumbers = FinMap nat_cmp ℕ

abbrev pub slot_number : Seen ℕ
slot_number slot kind = slot

-- The slot numbers of the records.
abbrev pub slot_numbers : List Run → SlotNumbers
slot_numbers records = contents_by slot_number records

-- The records of the addresses outside a range.
abbrev pub outside_records : List Run → (lba count : ℕ) → List Run
outside_records records lba count =
    filter (λ (run : Run). not (lies_in lba count run.start)) records

-- A sorted table and a pool of `room` slots: each slot has one record or is free.
pub record IsConsistent (records : List Run) (blocks : List (List ℕ)) (free : List ℕ) (room : ℕ) :
    Type 0 where
  pub sorted : IsSorted records
  pub once : IsEachOnce (length blocks) (slots_of records ++ free)
  pub count : length records + length free ≡ room
  pub pool : length blocks ≡ room
