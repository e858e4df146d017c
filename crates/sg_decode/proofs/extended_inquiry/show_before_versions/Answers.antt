use Rattle.std.proofs.Common.{◌≡◌, ◌≤◌, min, arith}
use Rattle.sg_wire.proofs.PrintingLemmas.{Prints-on}
use Rattle.sg_decode.specs.HexText.{hex_lines}
use Rattle.sg_decode.proofs.ItemLemmas.{part_present}
use Rattle.sg_decode.proofs.extended_inquiry.show_before_versions.Goals as goal

pub returns : goal.returns
returns g c =
    let within : min 58 c.args.end ≤ c.args.end = omega arith in
    let part = part_present 36 (min 58 c.args.end) c.args.end hex_lines c.args.bytes.now within in
    let first : c.min-reported.result ≡ min 58 c.args.end = omega (arith, c.min-reported.ensures) in
    record {
      verdict = rw first part.1;
      text =
          rw part.0 (Prints-on (rw (c.present_bytes.ensures.bytes, first) at c.put_hex.ensures)
          (rw first at c.put_truncated.ensures));
    }
