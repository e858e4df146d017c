-- Sense keys (SPC-4, sense key descriptions).
use Rattle.std.specs.Prelude.{ℕ}

abbrev pub no_sense : ℕ
no_sense = 0

abbrev pub not_ready : ℕ
not_ready = 2

abbrev pub illegal_request : ℕ
illegal_request = 5

abbrev pub unit_attention : ℕ
unit_attention = 6

abbrev pub data_protect : ℕ
data_protect = 7

abbrev pub aborted_command : ℕ
aborted_command = 11

abbrev pub miscompare : ℕ
miscompare = 14
