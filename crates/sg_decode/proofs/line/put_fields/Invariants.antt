use Rattle.std.proofs.Common.{take}
use Rattle.std.specs.List.{flat_map}
use Rattle.sg_wire.specs.Printing.{Prints}
use Rattle.sg_wire.specs.Printer.{printing}
use Rattle.sg_decode.specs.Lines.{part_text, part_of}
use Rattle.sg_decode.proofs.line.put_fields.Given as goal

-- the parts so far are printed
abbrev pub invariant-loop-field : goal.invariant-loop-field
invariant-loop-field g l =
    Prints (printing g.W.Write.contents l.fn.out) (printing g.W.Write.contents l.out)
    (flat_map (λ f. part_text l.bytes (part_of f)) (take l.field-index l.line))
