use Rattle.std.proofs.Common.{sym, ◌∙◌}
use Rattle.sg_wire.proofs.SupportedLemmas.{found-each, found-not, found-other, found-this}
use Rattle.sg_wire.proofs.command.supported.entry_requested.Goals as goal

pub loop-entry-init : goal.loop-entry-init
loop-entry-init c =
    found-each c.args.action c.args.profile c.args.opcode _ c.each-entries.ensures.entries

pub returns-then-is_requested : goal.returns-then-is_requested
returns-then-is_requested c =
    sym (found-this c.args.action c.args.profile c.args.opcode _ c.loop-entry.entry-index _
    c.loop-entry-test.true (sym c.is_of.ensures ∙ c.if-is_of.true)
    (sym c.is_requested.ensures ∙ c.if-is_requested.true)) ∙ c.loop-entry.invariant

pub loop-entry-preserved : goal.loop-entry-preserved
loop-entry-preserved c =
    elim c.else-is_of.branch [
      | goal.else-is_of-via-then-is_of+else-is_requested w ↦
          sym (found-not c.args.action c.args.profile c.args.opcode _ c.loop-entry.entry-index _
          c.loop-entry-test.true (sym c.is_of.ensures ∙ w.if-is_of.true)
          (sym w.is_requested.ensures ∙ w.if-is_requested.false)) ∙ c.loop-entry.invariant
      | goal.else-is_of-via-else-is_of w ↦
          sym (found-other c.args.action c.args.profile c.args.opcode _ c.loop-entry.entry-index _
          c.loop-entry-test.true (sym c.is_of.ensures ∙ w.if-is_of.false)) ∙ c.loop-entry.invariant
    ]
