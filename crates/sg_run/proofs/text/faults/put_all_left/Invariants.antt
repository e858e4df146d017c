use Rattle.std.specs.List.{flat_map, range_with_len}
use Rattle.sg_wire.specs.Printing.{Prints}
use Rattle.sg_wire.specs.Printer.{printing}
use Rattle.sg_run.specs.FaultText.{left_text}
use Rattle.sg_run.proofs.text.faults.put_all_left.Given as goal

-- the numbers so far are printed
abbrev pub invariant-loop-number : goal.invariant-loop-number
invariant-loop-number g l =
    Prints (printing g.W.Write.contents l.fn.out) (printing g.W.Write.contents l.out)
    (flat_map (left_text l.profile l.armed) (range_with_len 0 l.number))
