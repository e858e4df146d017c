-- The texts of READ CAPACITY data (SBC-3, 5.15.2 and 5.16.2). The data has no length of its own.
use Rattle.std.specs.Prelude.{List, [], ◌∷◌, codes}
use Rattle.sg_decode.specs.Lines.{Line, part}
use Rattle.sg_decode.specs.Items.{Decoder, line_items}
use Rattle.sg_decode.specs.declared.value.Value.TheVariants.{AlignedAddress, Bits, Number}

abbrev pub capacity_10_lines : List Line
capacity_10_lines =
    (part (codes "  returned logical block address: ") (Number 0 4) ∷ [])
    ∷ (part (codes "  logical block length: ") (Number 4 4) ∷ [])
    ∷ []

abbrev pub capacity_16_lines : List Line
capacity_16_lines =
    (part (codes "  returned logical block address: ") (Number 0 8) ∷ [])
    ∷ (part (codes "  logical block length: ") (Number 8 4) ∷ [])
    ∷ (part (codes "  P_TYPE: ") (Bits 12 3 1) ∷ part (codes ", PROT_EN: ") (Bits 12 0 0) ∷ [])
    ∷ (part (codes "  P_I_EXPONENT: ") (Bits 13 7 4)
    ∷ part (codes ", logical blocks per physical block exponent: ") (Bits 13 3 0) ∷ [])
    ∷ (part (codes "  LBPME: ") (Bits 14 7 7) ∷ part (codes ", LBPRZ: ") (Bits 14 6 6) ∷ [])
    ∷ (part (codes "  lowest aligned logical block address: ") (AlignedAddress 14) ∷ [])
    ∷ []

-- READ CAPACITY(10).
abbrev pub capacity_10 : Decoder
capacity_10 = record {
  header = line_items capacity_10_lines;
  reported_end = λ bytes. 8;
  body = λ bytes end. [];
}

-- READ CAPACITY(16). The sixteen reserved bytes at its end are not needed.
abbrev pub capacity_16 : Decoder
capacity_16 = record {
  header = line_items capacity_16_lines;
  reported_end = λ bytes. 32;
  body = λ bytes end. [];
}
