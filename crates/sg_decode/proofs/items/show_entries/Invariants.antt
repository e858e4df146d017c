use Rattle.std.proofs.Common.{Some, length, ◌-◌, ◌≤◌, ◌^◌}
use Rattle.sg_wire.specs.Printer.{printing}
use Rattle.sg_decode.specs.Entries.{entry_of}
use Rattle.sg_decode.proofs.ItemLemmas.{EntriesShown}
use Rattle.sg_decode.proofs.items.show_entries.Given as goal

-- the entries before `start` are shown
abbrev pub invariant-entries : goal.invariant-entries
invariant-entries g l = record {
  shown : EntriesShown (Some l.reported) l.bytes (entry_of l.kind) l.first l.start
      (printing g.W.Write.contents l.fn.out) (printing g.W.Write.contents l.out);
  bound : l.start ≤ 2 ^ 33;
}

abbrev pub decreases-entries : goal.decreases-entries
decreases-entries g l = length l.bytes - l.start
