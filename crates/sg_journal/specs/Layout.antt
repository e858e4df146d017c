-- The format of a file: a first sector, then batches, then a closed gate. Numbers are big-endian.
use Rattle.std.specs.Prelude.{ℕ, ◌+◌, ◌-◌, ◌*◌, ◌/◌, ◌%◌, ◌^◌, Bool, ◌&&◌, ◌||◌, not, nat_eq, nat_le}
use Rattle.std.specs.Prelude.{nat_lt, map}
use Rattle.std.specs.Prelude.{List, [], ◌∷◌, ◌++◌, length, take, drop, replicate, sum, slice_index}
use Rattle.std.specs.Prelude.{Result, Ok, Err, if◌then◌else◌, ◌==◌}
use Rattle.std.specs.Int.{from_be_bytes, is_power_of_two, next_multiple_of, w32}
use Rattle.std.specs.List.{starts_with}
use Rattle.std.specs.Simd.{first_chunks}
use Rattle.byteorder.specs.Endian.{big_bytes, big_number}
use Rattle.sg_journal.specs.declared.fault.Fault.{Fault}
use Rattle.sg_journal.specs.declared.fault.Fault.TheVariants.{NotADisk, OtherVersion, Damaged}

-- ---- The first sector: magic, version and sector length. The rest of it is ignored.

-- The text MEHDDISK.
abbrev pub magic : List ℕ
magic = 77 ∷ 69 ∷ 72 ∷ 68 ∷ 68 ∷ 73 ∷ 83 ∷ 75 ∷ []

abbrev pub format_version : ℕ
format_version = 4

-- The powers of two from 512 to 65,536.
unfoldable pub is_sector_length : ℕ → Bool
is_sector_length n = nat_le 512 n && nat_le n 65536 && is_power_of_two n

-- The fields of a first sector.
unfoldable pub header : (sector : ℕ) → List ℕ
header sector = magic ++ big_bytes 4 format_version ++ big_bytes 4 sector

-- What a new file begins with.
unfoldable pub first_sector : (sector : ℕ) → List ℕ
first_sector sector = header sector ++ replicate (sector - 16) 0

abbrev pub version_in : (header : List ℕ) → ℕ
version_in header = big_number 4 (drop 8 header)

abbrev pub sector_in : (header : List ℕ) → ℕ
sector_in header = big_number 4 (drop 12 header)

-- The sector length of a file that begins with these 16 bytes, or fewer if it is shorter.
unfoldable pub sector_of : (header : List ℕ) → Result ℕ Fault
sector_of header =
    if nat_lt (length header) 16 || not (starts_with nat_eq header magic) then Err NotADisk
    else if not (version_in header == format_version) then Err (OtherVersion (version_in header))
    else if not (is_sector_length (sector_in header)) then Err (Damaged 12)
    else Ok (sector_in header)

-- ---- A batch: a gate of one sector, and a body of whole sectors

-- The most bytes of the records of a batch: 4 MiB.
unfoldable pub max_batch : ℕ
max_batch = 4194304

-- The gate is open if its first byte is 1. Its other bytes are ignored.
unfoldable pub gate : (sector first : ℕ) → List ℕ
gate sector first = first ∷ replicate (sector - 1) 0

abbrev pub closed_gate : (sector : ℕ) → List ℕ
closed_gate sector = gate sector 0

abbrev pub open_gate : (sector : ℕ) → List ℕ
open_gate sector = gate sector 1

-- Words of four bytes, and behind them each byte that is left as a word of its own.
abbrev pub words : List ℕ → List ℕ
words bytes =
    map (from_be_bytes w32) (first_chunks 4 (length bytes / 4) bytes)
    ++ drop (length bytes / 4 * 4) bytes

-- The sum of the sums of all prefixes: each word counts once for itself and once for each word
-- after it.
abbrev pub sum_of_sums : List ℕ → ℕ
sum_of_sums [] = 0
sum_of_sums (word ∷ others) = word * (length others + 1) + sum_of_sums others

-- Fletcher's checksum: both sums modulo 2 ^ 32.
unfoldable pub checksum : (records : List ℕ) → ℕ
checksum records = sum_of_sums (words records) % 2 ^ 32 * 2 ^ 32 + sum (words records) % 2 ^ 32

-- The length of a body, by the length of its records.
unfoldable pub body_size : (sector count : ℕ) → ℕ
body_size sector count = next_multiple_of (count + 16) sector

-- The length of the records, their checksum, the records, and zeros up to whole sectors.
unfoldable pub body : (sector : ℕ) → (records : List ℕ) → List ℕ
body sector records =
    big_bytes 8 (length records) ++ big_bytes 8 (checksum records) ++ records
    ++ replicate (body_size sector (length records) - (length records + 16)) 0

-- An open gate, and a body.
abbrev pub whole_batch : (sector : ℕ) → (records : List ℕ) → List ℕ
whole_batch sector records = open_gate sector ++ body sector records

-- ---- The fields of a batch that begins with these bytes

abbrev pub is_open : List ℕ → Bool
is_open bytes = slice_index bytes 0 == 1

unfoldable pub length_in : (sector : ℕ) → List ℕ → ℕ
length_in sector bytes = big_number 8 (drop sector bytes)

unfoldable pub checksum_in : (sector : ℕ) → List ℕ → ℕ
checksum_in sector bytes = big_number 8 (drop (sector + 8) bytes)

unfoldable pub records_in : (sector : ℕ) → List ℕ → List ℕ
records_in sector bytes = take (length_in sector bytes) (drop (sector + 16) bytes)

-- The length of the gate and the body.
abbrev pub size_in : (sector : ℕ) → List ℕ → ℕ
size_in sector bytes = sector + body_size sector (length_in sector bytes)

-- It counts if its gate is open, its length is within the limit, and all of its sectors are there.
abbrev pub counts : (sector : ℕ) → List ℕ → Bool
counts sector bytes =
    is_open bytes
    && (nat_le (length_in sector bytes) max_batch && nat_le (size_in sector bytes) (length bytes))

abbrev pub is_sound : (sector : ℕ) → List ℕ → Bool
is_sound sector bytes = checksum (records_in sector bytes) == checksum_in sector bytes
