-- A line of a text is labels with values: its text, and the bytes that it needs.
use Rattle.std.specs.Prelude.{ℕ, List, [], ◌∷◌, ◌++◌, map, max, codes, Bool}
use Rattle.std.specs.List.{flat_map, list_all}
use Rattle.std.specs.Borrow.{Bor}
use Rattle.sg_decode.specs.Values.{value_text, value_end, is_sound}
use Rattle.sg_decode.specs.declared.value.Value.{Value}
use Rattle.sg_decode.specs.declared.value.Field.{Field}

-- A label and the value after it.
pub record Part : Type 0 where
  pub label : List ℕ
  pub value : Value

abbrev pub part : List ℕ → Value → Part
part label value = record { label = label; value = value }

abbrev pub Line : Type 0
Line = List Part

abbrev pub part_text : List ℕ → Part → List ℕ
part_text bytes p = p.label ++ value_text p.value bytes

-- The parts, one after the other, and an LF.
unfoldable pub line_text : Line → List ℕ → List ℕ
line_text line bytes = flat_map (part_text bytes) line ++ codes "\n"

-- The index after the last byte that a line needs.
abbrev pub line_end : Line → ℕ
line_end [] = 0
line_end (p ∷ ps) = max (value_end p.value) (line_end ps)

-- ---- Cited only by private contracts

abbrev pub lines_end : List Line → ℕ
lines_end [] = 0
lines_end (line ∷ more) = max (line_end line) (lines_end more)

abbrev pub is_sound_line : Line → Bool
is_sound_line line = list_all (λ (p : Part). is_sound p.value) line

abbrev pub are_sound : List Line → Bool
are_sound lines = list_all is_sound_line lines

-- A table of the code, seen as one of the definitions.

abbrev pub part_of : Field → Part
part_of f = part f.0.now f.1

abbrev pub line_of : List Field → Line
line_of fields = map part_of fields

abbrev pub lines_of : List (Bor (List Field)) → List Line
lines_of rows = map (λ row. line_of row.now) rows
