use Rattle.std.proofs.Common.{◌/◌, ◌++◌, length, take, map}
use Rattle.std.specs.Int.{from_be_bytes, w32}
use Rattle.std.specs.Simd.{first_chunks}
use Rattle.sg_journal.specs.Sums.{AreSums}
use Rattle.sg_journal.proofs.checksum.checksum.Given as goal

abbrev pub invariant-loop-word : goal.invariant-loop-word
invariant-loop-word l = AreSums (map (from_be_bytes w32) (take l.word-index l.words)) l.sums

abbrev pub invariant-loop-byte : goal.invariant-loop-byte
invariant-loop-byte l =
    AreSums
    (map (from_be_bytes w32) (first_chunks 4 (length l.records / 4) l.records)
    ++ take l.byte-index l.bytes)
    l.sums
