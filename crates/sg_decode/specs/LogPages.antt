-- The texts of log pages (SPC-4, 7.3).
use Rattle.std.specs.Prelude.{ℕ, ◌+◌, ◌==◌, List, [], ◌∷◌, drop, codes, slice_index, if◌then◌else◌}
use Rattle.byteorder.specs.Endian.{big_number}
use Rattle.sg_wire.specs.Bits.{bits_of}
use Rattle.sg_decode.specs.Lines.{Line, part}
use Rattle.sg_decode.specs.Items.{Decoder, line_items, entries_from}
use Rattle.sg_decode.specs.Entries.{entry_of}
use Rattle.sg_decode.specs.declared.entry.EntryKind.{EntryKind}
use Rattle.sg_decode.specs.declared.entry.EntryKind.TheVariants.{LogPages, LogSubpages}
use Rattle.sg_decode.specs.declared.entry.EntryKind.TheVariants.{LogParameters, LogExceptions}
use Rattle.sg_decode.specs.declared.entry.EntryKind.TheVariants.{LogResourceCounts}
use Rattle.sg_decode.specs.declared.value.Value.TheVariants.{Bits, Code, Number}

abbrev pub log_header : List Line
log_header =
    (part (codes "  DS: ") (Bits 0 7 7) ∷ part (codes ", SPF: ") (Bits 0 6 6) ∷ [])
    ∷ (part (codes "  page: ") (Code 0 5 0) ∷ part (codes ", subpage: ") (Code 1 7 0) ∷ [])
    ∷ (part (codes "  page length: ") (Number 2 2) ∷ [])
    ∷ []

-- What a page has after its header, by PAGE CODE and SUBPAGE CODE. Other pages have log parameters
-- without fields.
abbrev pub log_entries : (page subpage : ℕ) → EntryKind
log_entries page subpage =
    if page == 0x00
    then (if subpage == 0x00 then LogPages else (if subpage == 0xFF then LogSubpages else LogParameters))
    else (if subpage == 0x00
    then (if page == 0x0C then LogResourceCounts else (if page == 0x2F then LogExceptions else LogParameters))
    else LogParameters)

-- PAGE LENGTH counts the bytes after it.
abbrev pub log_page : Decoder
log_page = record {
  header = line_items log_header;
  reported_end = λ bytes. 4 + big_number 2 (drop 2 bytes);
  body = λ bytes end.
      entries_from (entry_of (log_entries (bits_of (slice_index bytes 0) 5 0) (slice_index bytes 1)))
      4 bytes;
}
