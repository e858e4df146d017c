use Rattle.std.proofs.Common.{refl, sym, ◌∙◌}
use Rattle.sg_wire.proofs.PrintingLemmas.{Prints-nil}
use Rattle.sg_decode.specs.Items.{shown, all_shown}
use Rattle.sg_decode.proofs.LineLemmas.{line_sound_at}
use Rattle.sg_decode.proofs.ItemLemmas.{lines_all, lines_more, lines_no_more, all_given}
use Rattle.sg_decode.specs.Lines.{lines_of}
use Rattle.sg_decode.proofs.items.show_lines.Goals as goal

pub line_end-end-requires : goal.line_end-end-requires
line_end-end-requires g c =
    line_sound_at c.args.lines.now c.loop-line.line-index _ c.loop-line-test.true c.requires

pub put_line-requires-clause-sound : goal.put_line-requires-clause-sound
put_line-requires-clause-sound g c =
    line_sound_at c.args.lines.now c.loop-line.line-index _ c.loop-line-test.true c.requires

pub loop-line-init : goal.loop-line-init
unfolding shown all_shown
loop-line-init g c = record { printed = Prints-nil _; all = refl }

pub returns-then-not-is_shown : goal.returns-then-not-is_shown
returns-then-not-is_shown g c =
    let i = c.loop-line.invariant in
    let s =
    lines_no_more _ _ _ c.args.reported c.args.bytes.now c.args.lines.now c.loop-line.line-index _ _
    c.loop-line-test.true c.line_end-end.ensures
    (sym c.is_shown.ensures.verdict ∙ c.if-not-is_shown.true) i.all i.printed
    c.is_shown.ensures.text in
    record { verdict = s.1; present = λ all. absurd cc; text = s.0 }

pub loop-line-preserved : goal.loop-line-preserved
loop-line-preserved g c =
    let i = c.loop-line.invariant in
    let s =
    lines_more _ _ _ _ c.args.reported c.args.bytes.now c.args.lines.now c.loop-line.line-index _ _
    c.loop-line-test.true c.line_end-end.ensures
    (sym c.is_shown.ensures.verdict ∙ c.if-not-is_shown.false) i.all i.printed
    c.is_shown.ensures.text c.put_line.ensures in
    record { printed = s.0; all = s.1 }

pub returns : goal.returns
returns g c =
    let i = c.loop-line.invariant in
    let s =
    lines_all _ _ c.args.reported c.args.bytes.now c.args.lines.now c.loop-line.line-index
    c.loop-line-test.false i.all i.printed in
    record {
      verdict = s.1;
      present = λ all. all_given c.args.reported c.args.bytes.now
          (lines_of c.args.lines.now) (sym s.1);
      text = s.0;
    }
