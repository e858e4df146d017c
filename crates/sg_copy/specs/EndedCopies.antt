-- Copies whose status is held for RECEIVE COPY STATUS(LID1) (SPC-4, 6.25).
use Rattle.std.specs.Prelude.{ℕ, ◌==◌, if◌then◌else◌, List, Option, Some, None, replicate}
use Rattle.std.specs.Prelude.{slice_index_or, slice_set}
use Rattle.std.specs.Option.{option_and_then}
use Rattle.sg_wire.specs.Initiator.{initiator_count}
use Rattle.sg_copy.specs.declared.ended_copies.EndedCopy.{EndedCopy}

-- For each initiator the last copy that ended without errors and had a LIST IDENTIFIER. An earlier status is
-- discarded, which a copy manager may do if it needs the resources (SPC-4, 6.25).
abbrev pub LastCopies : Type 0
LastCopies = List (Option EndedCopy)

abbrev pub no_copies : LastCopies
no_copies = replicate initiator_count None

abbrev pub last_copy : LastCopies → (initiator : ℕ) → Option EndedCopy
last_copy copies initiator = slice_index_or copies initiator None

-- The copy of an initiator under a LIST IDENTIFIER.
abbrev if_under : (list_identifier : ℕ) → EndedCopy → Option EndedCopy
if_under list_identifier copy = if copy.list_identifier == list_identifier then Some copy else None

abbrev pub copy_under : LastCopies → (initiator list_identifier : ℕ) → Option EndedCopy
copy_under copies initiator list_identifier =
    option_and_then (if_under list_identifier) (last_copy copies initiator)

-- A copy takes the place of the one before it.
abbrev pub with_copy : LastCopies → (initiator : ℕ) → EndedCopy → LastCopies
with_copy copies initiator copy = slice_set copies initiator (Some copy)

-- The last copy of an initiator is discarded.
abbrev pub without_copy : LastCopies → (initiator : ℕ) → LastCopies
without_copy copies initiator = slice_set copies initiator None
