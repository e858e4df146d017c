use Rattle.std.proofs.Common.{◌≡◌, ◌≤◌, ◌<◌, ◌+◌, ◌*◌, take, drop, length}
use Rattle.std.specs.Slice.Iter.{chunks_rest, chunks_size}
use Rattle.sg_decode.specs.HexPieces.{first_hex_lines_from}
use Rattle.sg_decode.proofs.hex_lines.write_lines.Given as goal

-- the first lines are written, each of them whole while bytes are left; the chunks go on after them
abbrev pub invariant-loop-number : goal.invariant-loop-number
invariant-loop-number l =
    let lines = l.number-iterator.count in
    record {
      written : take l.len l.text ≡ first_hex_lines_from l.offset lines l.bytes;
      whole : 16 * lines ≤ length l.bytes → l.len ≡ 60 * lines;
      most : l.len ≤ 60 * lines;
      left : chunks_rest l.number-iterator.iter ≡ drop (16 * lines) l.bytes;
      size : chunks_size l.number-iterator.iter ≡ 16;
      within : 16 * lines < length l.bytes + 16;
    }
