use Rattle.std.proofs.Common.{◌≡◌, ◌≤◌, ◌<◌, ◌-◌, ◌*◌, ◌∙◌, length, arith, ap, length-drop}
use Rattle.std.specs.Slice.Iter.{chunks_rest}
use Rattle.std.proofs.lemmas.Grind.{common_steps}
use Rattle.sg_decode.proofs.HexLemmas.{next_line, line-is}
use Rattle.sg_decode.proofs.hex_lines.write_lines.Goals as goal

pub loop-number-preserved : goal.loop-number-preserved
loop-number-preserved c =
    let i = c.loop-number.invariant in
    let s = c.in-Some.ensures.steps in
    let lines = c.loop-number.number-iterator.count in
    let behind : length (chunks_rest c.loop-number.number-iterator.iter)
    ≡ length c.args.bytes.now - 16 * lines =
    ap length i.left ∙ length-drop (16 * lines) c.args.bytes.now in
    let room : c.loop-number.len ≤ length c.loop-number.text =
    omega (
      arith,
      behind,
      s.0.1.2,
      i.most,
      c.requires.at_most_256,
      c.requires.room,
      c.loop-number.auto.text,
    ) in
    let some : c.write_line-len.result ≤ length c.write_line-len.new.text =
    grind (arith, common_steps) in
    let filled : 0 < length c.in-Some.line.now = omega (arith, i.size, s.0.1.1, s.0.1.2) in
    let few : c.in-Some.number < 16 =
    omega (arith, behind, filled, s.0.1.2, s.1, c.requires.at_most_256) in
    let line =
    line-is c.args.offset c.in-Some.number c.spaced_offset-head.result c.in-Some.line.now
    c.spaced_offset-head.ensures.text c.requires.multiple few
    (omega (arith, few, c.requires.multiple)) filled in
    let next =
    next_line _ _ _ _ _ _ _ _ _ _ _ _ _ _ i.written room i.left s.0.1.0 s.0.1.1 i.size s.1 s.2
    (c.write_line-len.ensures.text ∙ line) some in
    record {
      written = next.0;
      whole =
          λ h. omega (
            arith,
            h,
            behind,
            i.whole (omega (arith, h, s.2)),
            i.size,
            s.0.1.1,
            s.2,
            c.write_line-len.ensures.length,
          );
      most = omega (arith, i.most, i.size, s.0.1.1, s.2, c.write_line-len.ensures.length);
      left = next.1;
      size = s.0.0 ∙ i.size;
      within = omega (arith, behind, s.0.1.2, s.2);
    }
