-- The text of REPORT LUNS parameter data (SPC-4, 6.33).
use Rattle.std.specs.Prelude.{◌+◌, List, [], ◌∷◌, codes}
use Rattle.byteorder.specs.Endian.{big_number}
use Rattle.sg_decode.specs.Lines.{Line, part}
use Rattle.sg_decode.specs.Items.{Decoder, line_items, entries_from}
use Rattle.sg_decode.specs.Entries.{entry_of}
use Rattle.sg_decode.specs.declared.entry.EntryKind.TheVariants.{Luns}
use Rattle.sg_decode.specs.declared.value.Value.TheVariants.{Number}

abbrev pub lun_list_length : List Line
lun_list_length = (part (codes "  LUN list length: ") (Number 0 4) ∷ []) ∷ []

-- LUN LIST LENGTH counts the LUNs, which follow four reserved bytes.
abbrev pub luns : Decoder
luns = record {
  header = line_items lun_list_length;
  reported_end = λ bytes. 8 + big_number 4 bytes;
  body = λ bytes end. entries_from (entry_of Luns) 8 bytes;
}
