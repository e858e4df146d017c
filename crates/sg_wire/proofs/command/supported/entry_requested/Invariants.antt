use Rattle.std.proofs.Common.{◌≡◌, drop}
use Rattle.sg_wire.proofs.SupportedLemmas.{found}
use Rattle.sg_wire.specs.SupportedOperations.{row_requested}
use Rattle.sg_wire.proofs.command.supported.entry_requested.Given as goal

-- the row is among the entries that are left
abbrev pub invariant-loop-entry : goal.invariant-loop-entry
invariant-loop-entry l =
    found l.action l.profile l.opcode l.entries (drop l.entry-index l.entries)
    ≡ row_requested l.profile l.opcode l.action
