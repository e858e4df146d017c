use Rattle.std.proofs.Common.{◌≡◌, ◌-◌}
use Rattle.sg_wire.specs.Printer.{printing}
use Rattle.sgrun.proofs.ShownDiskLemmas.{HasPrinted}
use Rattle.sgrun.proofs.show_disk.put_runs.Given as goal

-- the runs below `next` are printed
abbrev pub invariant-loop-next : goal.invariant-loop-next
invariant-loop-next g l = record {
  printed : HasPrinted (printing g.W.Write.contents l.fn.out) (printing g.W.Write.contents l.out)
      l.fn.target.state.disk l.next;
  state : l.target.state ≡ l.fn.target.state;
}

abbrev pub decreases-loop-next : goal.decreases-loop-next
decreases-loop-next g l = l.capacity - l.next
