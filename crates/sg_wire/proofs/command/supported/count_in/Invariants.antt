use Rattle.std.proofs.Common.{◌≡◌, ◌≤◌, ◌+◌, drop, length}
use Rattle.sg_wire.specs.Table.{layouts_in}
use Rattle.sg_wire.proofs.command.supported.count_in.Given as goal

-- the commands so far and those that are left are all
abbrev pub invariant-loop-entry : goal.invariant-loop-entry
invariant-loop-entry l = record {
  all : l.count + length (layouts_in l.profile (drop l.entry-index l.entries))
      ≡ length (layouts_in l.profile l.entries);
  bound : l.count ≤ l.entry-index;
}
