-- The exit status of a command's reply (sg3_utils(8), EXIT STATUS).
use Rattle.std.specs.Prelude.{ℕ, List, [], ◌∷◌, Option, Some, None, Bool, true, ◌==◌, ◌&&◌}
use Rattle.std.specs.Prelude.{if◌then◌else◌}
use Rattle.sg_wire.specs.SenseData.{SenseFields}
use Rattle.sg_wire.specs.SenseKey.{illegal_request, unit_attention, data_protect, aborted_command}
use Rattle.sg_wire.specs.SenseKey.{miscompare}

-- Sense keys that only an armed fault returns (SPC-4, sense key descriptions).
abbrev recovered_error : ℕ
recovered_error = 1

abbrev not_ready : ℕ
not_ready = 2

abbrev medium_error : ℕ
medium_error = 3

abbrev hardware_error : ℕ
hardware_error = 4

-- Sense data, and its exit status. It has a sense key and, if they matter, an additional sense code
-- and its qualifier.
pub record SenseStatus : Type 0 where
  pub key : ℕ
  pub codes : Option (ℕ × ℕ)
  pub exit_status : ℕ

abbrev with_codes : (key asc ascq exit_status : ℕ) → SenseStatus
with_codes key asc ascq exit_status =
    record { key = key; codes = Some (asc, ascq); exit_status = exit_status }

abbrev with_key : (key exit_status : ℕ) → SenseStatus
with_key key exit_status = record { key = key; codes = None; exit_status = exit_status }

-- The first row that applies decides.
abbrev pub sense_statuses : List SenseStatus
sense_statuses =
    with_key recovered_error 21
    ∷ with_key not_ready 2
    ∷ with_key medium_error 3
    ∷ with_key hardware_error 3
    ∷ with_codes illegal_request 0x20 0x00 9  -- INVALID COMMAND OPERATION CODE
    ∷ with_codes illegal_request 0x21 0x00 22  -- LOGICAL BLOCK ADDRESS OUT OF RANGE
    ∷ with_key illegal_request 5
    ∷ with_key unit_attention 6
    ∷ with_key data_protect 7
    ∷ with_key aborted_command 11
    ∷ with_key miscompare 14
    ∷ []

-- Every other failure, also if the sense data can't be read.
abbrev pub other_failure : ℕ
other_failure = 99

abbrev pub has_codes : Option (ℕ × ℕ) → SenseFields → Bool
has_codes None sense = true
has_codes (Some codes) sense = sense.asc == codes.0 && sense.ascq == codes.1

abbrev pub applies : SenseStatus → SenseFields → Bool
applies row sense = sense.key == row.key && has_codes row.codes sense

abbrev pub status_by : List SenseStatus → SenseFields → ℕ
status_by [] sense = other_failure
status_by (row ∷ rows) sense = if applies row sense then row.exit_status else status_by rows sense

abbrev pub sense_status : Option SenseFields → ℕ
sense_status None = other_failure
sense_status (Some sense) = status_by sense_statuses sense

-- GOOD is 00h, CHECK CONDITION 02h, BUSY 08h, RESERVATION CONFLICT 18h and TASK SET FULL 28h
-- (SAM-5, status codes). FFh is no status there: no reply has come.
abbrev pub exit_status : (status : ℕ) → Option SenseFields → ℕ
exit_status status sense =
    if status == 0x00 then 0
    else (if status == 0x02 then sense_status sense
    else (if status == 0x08 then 26
    else (if status == 0x18 then 24
    else (if status == 0x28 then 27
    else (if status == 0xFF then 33
    else other_failure)))))
