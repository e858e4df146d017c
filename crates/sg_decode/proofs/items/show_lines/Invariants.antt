use Rattle.std.proofs.Common.{◌≡◌, take, true}
use Rattle.sg_wire.specs.Printing.{Prints}
use Rattle.sg_wire.specs.Printer.{printing}
use Rattle.sg_decode.specs.Lines.{lines_of}
use Rattle.sg_decode.specs.Items.{all_shown, line_items, shown}
use Rattle.sg_decode.proofs.items.show_lines.Given as goal

-- the lines so far are all shown
abbrev pub invariant-loop-line : goal.invariant-loop-line
invariant-loop-line g l =
    let items = take l.line-index (line_items (lines_of l.lines)) in
    record {
      printed : Prints (printing g.W.Write.contents l.fn.out) (printing g.W.Write.contents l.out)
          (shown l.reported l.bytes items);
      all : all_shown l.reported l.bytes items ≡ true;
    }
