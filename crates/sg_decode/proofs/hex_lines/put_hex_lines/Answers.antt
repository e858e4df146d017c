use Rattle.std.proofs.Common.{◌≡◌, ◌<◌, ◌-◌, ◌*◌, ◌∙◌, length, arith, ap, length-drop}
use Rattle.std.specs.Slice.Iter.{chunks_rest}
use Rattle.sg_decode.proofs.HexLemmas.{next_lines}
use Rattle.sg_decode.proofs.hex_lines.put_hex_lines.Goals as goal

pub loop-number-preserved : goal.loop-number-preserved
loop-number-preserved g c =
    let i = c.loop-number.invariant in
    let s = c.in-Some.ensures.steps in
    let chunks = c.loop-number.number-iterator.count in
    let behind : length (chunks_rest c.loop-number.number-iterator.iter)
    ≡ length c.args.bytes.now - 256 * chunks =
    ap length i.left ∙ length-drop (256 * chunks) c.args.bytes.now in
    let some : 0 < length c.in-Some.lines.now = omega (arith, i.size, s.0.1.1, s.0.1.2) in
    let next =
    next_lines _ _ _ _ _ _ _ _ _ _ _ _ i.printed c.put.ensures c.write_lines-len.ensures.text i.left
    s.0.1.0 s.0.1.1 some i.size s.1 s.2 in
    record {
      printed = next.0;
      left = next.1;
      size = s.0.0 ∙ i.size;
      within = omega (arith, behind, s.0.1.2, s.2);
    }
