use Rattle.std.proofs.Common.{◌≤◌, ◌+◌, ◌*◌, length, arith, sym, length-take-le}
use Rattle.std.proofs.lemmas.Grind.{common_steps}
use Rattle.std.proofs.lemmas.Simd.{length-put_chunk}
use Rattle.sg_decode.proofs.HexLemmas.{line-of, lanes-front, lanes-room, lanes-fit}
use Rattle.sg_decode.proofs.hex_lines.write_line.Goals as goal

pub store-text : goal.store-text
store-text c = lanes-fit c.args.text.now c.requires.room

pub slice_bounds-head-end-2 : goal.slice_bounds-head-end-2
slice_bounds-head-end-2 c = sym (length-take-le 16 c.args.text.now (omega (arith, c.requires.room)))

pub returns-clause-text : goal.returns-clause-text
returns-clause-text c =
    let front =
    lanes-front 11 c.args.text.now c.args.head (omega arith) (omega (arith, c.requires.room))
    c.requires.head in
    let within = lanes-room 11 c.args.text.now c.args.head (omega arith) c.requires.room in
    let room : 3 * length c.args.bytes.now + 1 ≤ length c.write_bytes.new.text =
    grind (arith, common_steps, length-put_chunk) in
    line-of _ _ _ _ _ _ _ front within c.write_bytes.ensures room
