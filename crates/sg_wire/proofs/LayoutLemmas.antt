-- A CDB, byte by byte.
use Rattle.std.proofs.Common.{◌≡◌, ◌<◌, ◌≤◌, ℕ, ◌+◌, ◌*◌, ◌^◌, List, ◌++◌}
use Rattle.std.proofs.Common.{length, drop, get_or, Some, None, cond}
use Rattle.std.proofs.Common.{eqb, refl, ◌∙◌, arith}
use Rattle.std.specs.Prelude.{bit_and, slice_index}
use Rattle.std.proofs.lemmas.Grind.{get_or_after_one}
use Rattle.std.proofs.lemmas.List.{drop_more, drop_all, get_or-drop}
use Rattle.std.proofs.lemmas.Nat.{and_mask}
use Rattle.std.proofs.Math.Nat.{mod-eq_of_lt}
use Rattle.byteorder.specs.Endian.{big_bytes, big_number}
use Rattle.byteorder.specs.Numbers.{big_from-bytes}
use Rattle.sg_wire.specs.Bits.{bits_of}
use Rattle.sg_wire.specs.CdbDecoding.{first_bad}
use Rattle.sg_wire.specs.CdbFields.{number_at}

-- one more byte
pub first_bad-more : (masks bytes : List ℕ) (k : ℕ) → k < length masks → k < length bytes →
    first_bad k (drop k masks) (drop k bytes)
    ≡ cond (eqb (bit_and (get_or bytes k 0) (get_or masks k 0)) (get_or bytes k 0))
    (first_bad (k + 1) (drop (k + 1) masks) (drop (k + 1) bytes)) (Some k)
first_bad-more masks bytes k h l = rw (drop_more masks k 0 h, drop_more bytes k 0 l) refl

-- past the masks no byte is looked at
pub first_bad-end : (masks bytes : List ℕ) (k : ℕ) → length masks ≤ k
    → first_bad k (drop k masks) (drop k bytes) ≡ None
first_bad-end masks bytes k h = rw (drop_all k masks h) refl

pub ruleset byte_by_byte = (first_bad-more, first_bad-end)

-- a number is read back
pub number_again : (n x : ℕ) (rest : List ℕ) → x < 256 ^ n
    → big_number n (big_bytes n x ++ rest) ≡ x
number_again n x rest h = big_from-bytes n x rest ∙ mod-eq_of_lt h

-- the address of READ(6) and WRITE(6) is in the low 21 bits of bytes 1 to 3
pub short_address : (cdb : List ℕ) → ((i : ℕ) → slice_index cdb i < 256)
    → bit_and (big_number 3 (drop 1 cdb)) 0x1F_FFFF
    ≡ bits_of (slice_index cdb 1) 4 0 * 65536 + number_at cdb 2 3
short_address cdb byte =
    omega (
      arith,
      and_mask (big_number 3 (drop 1 cdb)) 21,
      and_mask (slice_index cdb 1) 5,
      byte 1,
      byte 2,
      byte 3,
      get_or_after_one cdb 0 0,
      get_or_after_one cdb 1 0,
      get_or_after_one cdb 2 0,
      get_or-drop 2 cdb 0 0,
      get_or-drop 2 cdb 1 0,
    )
