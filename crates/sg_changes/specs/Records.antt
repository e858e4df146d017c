-- The bytes of a change: its record. A record is a tag of one byte, and the fields of its change.
use Rattle.std.specs.Prelude.{ℕ, ◌*◌, ◌==◌, Bool, List, ◌∷◌, Option, Some, None, if◌then◌else◌}
use Rattle.sg_pages.specs.declared.mode_pages.mode_page.PageValues.{PageValues}
use Rattle.sg_store.specs.Disk.{block_length}
use Rattle.sg_wire.specs.declared.extent.Extent.{Extent}
use Rattle.sg_changes.specs.Change.{Change}
use Rattle.sg_changes.specs.Change.Change.{Write, Fill, Unmap, Anchor, Grow}
use Rattle.sg_changes.specs.Change.Change.{Pages, Reservations, Faults}
use Rattle.sg_changes.specs.Format.{Format, number, plain, before, pair, coded, made, tagged}
use Rattle.sg_changes.specs.ExtentFormat.{extent}
use Rattle.sg_changes.specs.FaultFormat.{faults}
use Rattle.sg_changes.specs.ReservationFormat.{reservations}

-- ---- The fields of each record, with their lengths in bytes

-- LBA 8, COUNT 4, BLOCKS 512 · COUNT.
unfoldable pub write : Format (Extent × List ℕ)
write = before extent (λ e. plain (block_length * e.count))

-- LBA 8, COUNT 4, BLOCK 512.
unfoldable pub fill : Format (Extent × List ℕ)
fill = pair extent (plain block_length)

-- LBA 8, COUNT 8.
unfoldable pub range : Format (ℕ × ℕ)
range = pair (number 8) (number 8)

-- The values of page 01h 10, of page 08h 18, of page 0Ah 10, of page 1Ch 10, of page 1Ch/02h 28.
unfoldable pub pages : Format PageValues
pages =
    coded
    (λ p. Some (record {
      error_recovery = p.0;
      caching = p.1.0;
      control = p.1.1.0;
      exceptions_control = p.1.1.1.0;
      provisioning = p.1.1.1.1;
    }))
    (λ (v : PageValues).
    Some (v.error_recovery, (v.caching, (v.control, (v.exceptions_control, v.provisioning)))))
    (pair (plain 10) (pair (plain 18) (pair (plain 10) (pair (plain 10) (plain 28)))))

-- CAPACITY 8.
abbrev pub capacity : Format ℕ
capacity = number 8

-- ---- The table

abbrev pub record_of : Change → List ℕ
record_of (Write e blocks) = 1 ∷ write.bytes (e, blocks)
record_of (Fill e block) = 2 ∷ fill.bytes (e, block)
record_of (Unmap lba count) = 3 ∷ range.bytes (lba, count)
record_of (Anchor e) = 4 ∷ extent.bytes e
record_of (Pages saved) = 5 ∷ pages.bytes saved
record_of (Reservations persistent) = 6 ∷ reservations.bytes persistent
record_of (Faults slots) = 7 ∷ faults.bytes slots
record_of (Grow blocks) = 8 ∷ capacity.bytes blocks

abbrev pub is_possible : Change → Bool
is_possible (Write e blocks) = write.is_possible (e, blocks)
is_possible (Fill e block) = fill.is_possible (e, block)
is_possible (Unmap lba count) = range.is_possible (lba, count)
is_possible (Anchor e) = extent.is_possible e
is_possible (Pages saved) = pages.is_possible saved
is_possible (Reservations persistent) = reservations.is_possible persistent
is_possible (Faults slots) = faults.is_possible slots
is_possible (Grow blocks) = capacity.is_possible blocks

-- The change whose tag and fields these are, and the bytes after them.
unfoldable pub fields_at : (tag : ℕ) (fields : List ℕ) → Option (Change × List ℕ)
fields_at tag fields =
    if tag == 1 then made (λ f. Write f.0 f.1) (write.at fields)
    else if tag == 2 then made (λ f. Fill f.0 f.1) (fill.at fields)
    else if tag == 3 then made (λ f. Unmap f.0 f.1) (range.at fields)
    else if tag == 4 then made Anchor (extent.at fields)
    else if tag == 5 then made Pages (pages.at fields)
    else if tag == 6 then made Reservations (reservations.at fields)
    else if tag == 7 then made Faults (faults.at fields)
    else if tag == 8 then made Grow (capacity.at fields)
    else None

-- The format of records.
abbrev pub change : Format Change
change = tagged record_of is_possible fields_at

-- The change whose record is in front, and the bytes after it. None if no change has such a record.
abbrev pub change_at : List ℕ → Option (Change × List ℕ)
change_at = change.at
