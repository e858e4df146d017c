-- The texts of PERSISTENT RESERVE IN parameter data (SPC-4, 6.15).
use Rattle.std.specs.Prelude.{ℕ, ◌+◌, List, [], ◌∷◌, drop, codes, ◌==◌, if◌then◌else◌}
use Rattle.byteorder.specs.Endian.{big_number}
use Rattle.sg_decode.specs.Lines.{Line, part}
use Rattle.sg_decode.specs.Items.{Decoder, Item, item, line_items, entries_from}
use Rattle.sg_decode.specs.Entries.{entry_of}
use Rattle.sg_decode.specs.declared.entry.EntryKind.{EntryKind}
use Rattle.sg_decode.specs.declared.entry.EntryKind.TheVariants.{ReservationKeys}
use Rattle.sg_decode.specs.declared.entry.EntryKind.TheVariants.{FullStatusDescriptors}
use Rattle.sg_decode.specs.declared.entry.EntryKind.TheVariants.{ExtendedFullStatusDescriptors}
use Rattle.sg_decode.specs.declared.value.Value.TheVariants.{Bits, Number, Address}
use Rattle.sg_decode.specs.declared.value.Value.TheVariants.{ReservationTypes}

-- The header of READ KEYS, READ RESERVATION and READ FULL STATUS.
abbrev pub generation_lines : List Line
generation_lines =
    (part (codes "  generation: ") (Number 0 4) ∷ [])
    ∷ (part (codes "  additional length: ") (Number 4 4) ∷ [])
    ∷ []

abbrev pub additional_length : List ℕ → ℕ
additional_length bytes = big_number 4 (drop 4 bytes)

-- Entries of a kind after the header.
abbrev pub list_of : EntryKind → Decoder
list_of kind = record {
  header = line_items generation_lines;
  reported_end = λ bytes. 8 + additional_length bytes;
  body = λ bytes end. entries_from (entry_of kind) 8 bytes;
}

-- READ KEYS.
abbrev pub keys : Decoder
keys = list_of ReservationKeys

-- READ FULL STATUS (SPC-4, 6.15.5).
abbrev pub full_status : Decoder
full_status = list_of FullStatusDescriptors

-- The same, as a script on an extended disk shows it.
abbrev pub extended_full_status : Decoder
extended_full_status = list_of ExtendedFullStatusDescriptors

-- READ RESERVATION.
abbrev pub reservation_lines : List Line
reservation_lines =
    (part (codes "  key: ") (Address 8) ∷ [])
    ∷ (part (codes "  scope: ") (Bits 21 7 4) ∷ part (codes ", type: ") (Bits 21 3 0) ∷ [])
    ∷ []

abbrev no_reservation : Item
no_reservation = item 8 8 (λ own. codes "  no reservation\n")

abbrev pub reservation_items : (length : ℕ) → List Item
reservation_items length =
    if length == 0 then no_reservation ∷ [] else line_items reservation_lines

abbrev pub reservation : Decoder
reservation = record {
  header = line_items generation_lines;
  reported_end = λ bytes. 8 + additional_length bytes;
  body = λ bytes end. reservation_items (additional_length bytes);
}

-- REPORT CAPABILITIES, whose LENGTH counts itself too.
abbrev pub capabilities_length : List Line
capabilities_length = (part (codes "  length: ") (Number 0 2) ∷ []) ∷ []

abbrev reservation_types : Line
reservation_types = part (codes "  types:") (ReservationTypes 4) ∷ []

-- RLR_C, CRH, SIP_C, ATP_C and ALLOW COMMANDS are not shown.
abbrev pub capabilities_lines : List Line
capabilities_lines =
    (part (codes "  PTPL_C: ") (Bits 2 0 0) ∷ [])
    ∷ (part (codes "  TMV: ") (Bits 3 7 7) ∷ part (codes ", PTPL_A: ") (Bits 3 0 0) ∷ [])
    ∷ reservation_types
    ∷ []

-- All fields, as a script on an extended disk shows them.
abbrev pub extended_capabilities_lines : List Line
extended_capabilities_lines =
    (part (codes "  RLR_C: ") (Bits 2 7 7)
    ∷ part (codes ", CRH: ") (Bits 2 4 4)
    ∷ part (codes ", SIP_C: ") (Bits 2 3 3)
    ∷ part (codes ", ATP_C: ") (Bits 2 2 2)
    ∷ part (codes ", PTPL_C: ") (Bits 2 0 0)
    ∷ [])
    ∷ (part (codes "  TMV: ") (Bits 3 7 7)
    ∷ part (codes ", ALLOW COMMANDS: ") (Bits 3 6 4)
    ∷ part (codes ", PTPL_A: ") (Bits 3 0 0)
    ∷ [])
    ∷ reservation_types
    ∷ []

abbrev pub capabilities_with : List Line → Decoder
capabilities_with lines = record {
  header = line_items capabilities_length;
  reported_end = λ bytes. big_number 2 bytes;
  body = λ bytes end. line_items lines;
}

abbrev pub capabilities : Decoder
capabilities = capabilities_with capabilities_lines

abbrev pub extended_capabilities : Decoder
extended_capabilities = capabilities_with extended_capabilities_lines
