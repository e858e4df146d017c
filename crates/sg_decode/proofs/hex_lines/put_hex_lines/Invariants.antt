use Rattle.std.proofs.Common.{◌≡◌, ◌*◌, ◌+◌, ◌<◌, drop, length}
use Rattle.std.specs.Slice.Iter.{chunks_rest, chunks_size}
use Rattle.sg_decode.specs.HexText.{first_hex_lines}
use Rattle.sg_wire.specs.Printer.{PrintsText}
use Rattle.sg_decode.proofs.HexLemmas.{lines_of}
use Rattle.sg_decode.proofs.hex_lines.put_hex_lines.Given as goal

-- the lines of the first chunks are printed, and the others follow
abbrev pub invariant-loop-number : goal.invariant-loop-number
invariant-loop-number g l =
    let chunks = l.number-iterator.count in
    record {
      printed : PrintsText g.W.Write.contents l.fn.out l.out
          (first_hex_lines (lines_of chunks (length l.bytes)) l.bytes);
      left : chunks_rest l.number-iterator.iter ≡ drop (256 * chunks) l.bytes;
      size : chunks_size l.number-iterator.iter ≡ 256;
      within : 256 * chunks < length l.bytes + 256;
    }
