use Rattle.std.proofs.Common.{◌≡◌, drop}
use Rattle.sg_wire.proofs.SupportedLemmas.{have}
use Rattle.sg_wire.specs.SupportedOperations.{each_row_has}
use Rattle.sg_wire.proofs.command.supported.each_row_has.Given as goal

-- the entries that are left decide
abbrev pub invariant-loop-entry : goal.invariant-loop-entry
invariant-loop-entry l =
    have l.with_action l.profile l.opcode l.entries (drop l.entry-index l.entries)
    ≡ each_row_has l.profile l.opcode l.with_action
