use Rattle.std.proofs.Common.{take}
use Rattle.std.specs.List.{flat_map}
use Rattle.sg_wire.specs.Printing.{Prints}
use Rattle.sg_wire.specs.Printer.{printing}
use Rattle.sgrun.specs.ShownDisk.{registration_line}
use Rattle.sgrun.proofs.show_disk.put_registrations.Given as goal

-- the registrations so far are printed
abbrev pub invariant-loop-registration : goal.invariant-loop-registration
invariant-loop-registration g l =
    Prints (printing g.W.Write.contents l.fn.out) (printing g.W.Write.contents l.out)
    (flat_map registration_line (take l.registration-index l.registrations))
