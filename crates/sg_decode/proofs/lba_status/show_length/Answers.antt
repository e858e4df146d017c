use Rattle.std.proofs.Common.{None}
use Rattle.sg_decode.proofs.ItemLemmas.{blank_shown, shown_given}
use Rattle.sg_decode.proofs.lba_status.show_length.Goals as goal

pub returns-then-brief : goal.returns-then-brief
returns-then-brief g c =
    let s =
    blank_shown None c.args.bytes.now 0 4 _ _ _ c.is_shown.ensures.verdict c.is_shown.ensures.text
    in
    record {
      verdict = rw c.if-brief.true s.1;
      present = λ all. shown_given None c.args.bytes.now 4
          (rw c.is_shown.ensures.verdict at all);
      text = rw c.if-brief.true s.0;
    }

pub returns-else-brief : goal.returns-else-brief
returns-else-brief g c =
    record {
      verdict = rw c.if-brief.false c.show_lines.ensures.verdict;
      present =
          c.show_lines.ensures.present;
      text = rw c.if-brief.false c.show_lines.ensures.text;
    }
