-- Sense data is one line: its key and its code, then INFORMATION and the field pointer, if any.
use Rattle.std.specs.Prelude.{ℕ, List, [], ◌∷◌, ◌++◌, codes, decimal, take, Option, Some, None, Bool}
use Rattle.std.specs.Prelude.{unwrap_or, option_and_then, ◌==◌, if◌then◌else◌}
use Rattle.std.specs.Int.{to_be_bytes, w64}
use Rattle.hex.specs.Hex.{encode_lower}
use Rattle.sg_wire.specs.SenseData.{SenseFields}
use Rattle.sg_wire.specs.SenseReading.{read_sense}
use Rattle.sg_wire.specs.SenseKey.{no_sense, illegal_request, unit_attention, data_protect}
use Rattle.sg_wire.specs.SenseKey.{aborted_command}
use Rattle.sg_wire.specs.declared.sense.Pointer.{Pointer}
use Rattle.sg_decode.specs.HexText.{upper_hex_byte}

-- The name of a sense key (SPC-4, sense key descriptions).
abbrev pub key_name : ℕ → Option (List ℕ)
key_name key =
    if key == no_sense then Some (codes "NO SENSE")
    else (if key == illegal_request then Some (codes "ILLEGAL REQUEST")
    else (if key == unit_attention then Some (codes "UNIT ATTENTION")
    else (if key == data_protect then Some (codes "DATA PROTECT")
    else (if key == aborted_command then Some (codes "ABORTED COMMAND")
    else None))))

abbrev pub key_text : ℕ → List ℕ
key_text key = unwrap_or (key_name key) (codes "KEY " ++ upper_hex_byte key)

-- An additional sense code and its qualifier.
unfoldable pub code_text : (asc ascq : ℕ) → List ℕ
code_text asc ascq = codes ", " ++ (upper_hex_byte asc ++ (codes "/" ++ upper_hex_byte ascq))

unfoldable pub information_text : Option ℕ → List ℕ
information_text None = []
information_text (Some n) = codes ", information 0x" ++ encode_lower (to_be_bytes w64 n)

abbrev pub pointer_label : (in_command : Bool) → List ℕ
pointer_label in_command = if in_command then codes ", command byte " else codes ", list byte "

unfoldable pub pointer_text : Option Pointer → List ℕ
pointer_text None = []
pointer_text (Some p) = pointer_label p.in_command ++ decimal p.byte

-- The sense key, the additional sense code and its qualifier, and any other fields.
unfoldable pub fields_text : SenseFields → List ℕ
fields_text s =
    key_text s.key ++ (code_text s.asc s.ascq
    ++ (information_text s.information ++ (pointer_text s.pointer ++ codes "\n")))

abbrev pub sense_text : Option SenseFields → List ℕ
sense_text None = codes "  sense: unreadable\n"
sense_text (Some s) = codes "  sense: " ++ fields_text s

-- The line of sense data. If the sense data can't be read, the line is empty.
unfoldable pub sense_line : List ℕ → List ℕ
sense_line bytes = sense_text (read_sense bytes)

-- ---- Deferred errors, which an extended disk's script shows

-- The response code of a deferred error, by the one of a current error whose layout it has (SPC-4, 4.5.1).
abbrev pub current_code : (code : ℕ) → Option ℕ
current_code code =
    if code == 0x71 then Some 0x70
    else (if code == 0xF1 then Some 0xF0 else (if code == 0x73 then Some 0x72 else None))

-- Sense data has at most 252 bytes (SPC-4, 4.5.1).
abbrev pub longest_sense_data : ℕ
longest_sense_data = 252

-- The fields that sense data of a deferred error reports.
abbrev pub read_deferred : List ℕ → Option SenseFields
read_deferred [] = None
read_deferred (code ∷ rest) =
    option_and_then (λ current. read_sense (take longest_sense_data (current ∷ rest)))
    (current_code code)

abbrev pub deferred_text : (deferred current : Option SenseFields) → List ℕ
deferred_text None current = sense_text current
deferred_text (Some s) current = codes "  sense: deferred, " ++ fields_text s

-- The line of sense data, of a current error or of a deferred one.
abbrev pub extended_sense_line : List ℕ → List ℕ
extended_sense_line bytes = deferred_text (read_deferred bytes) (read_sense bytes)
