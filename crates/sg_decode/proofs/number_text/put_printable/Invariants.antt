use Rattle.std.proofs.Common.{map, take}
use Rattle.sg_wire.specs.Printing.{Prints}
use Rattle.sg_wire.specs.Printer.{printing}
use Rattle.sg_decode.specs.Values.{printable}
use Rattle.sg_decode.proofs.number_text.put_printable.Given as goal

-- the bytes so far are printed
abbrev pub invariant-loop-byte : goal.invariant-loop-byte
invariant-loop-byte g l =
    Prints (printing g.W.Write.contents l.fn.out) (printing g.W.Write.contents l.out)
    (map printable (take l.byte-index l.bytes))
