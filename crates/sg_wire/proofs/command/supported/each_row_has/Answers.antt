use Rattle.std.proofs.Common.{sym, ◌∙◌}
use Rattle.sg_wire.proofs.SupportedLemmas.{have-each, have-not, have-other, have-this}
use Rattle.sg_wire.proofs.command.supported.each_row_has.Goals as goal

pub loop-entry-init : goal.loop-entry-init
loop-entry-init c =
    have-each c.args.with_action c.args.profile c.args.opcode _ c.each-entries.ensures.entries

pub returns-then-not-has_action_if : goal.returns-then-not-has_action_if
returns-then-not-has_action_if c =
    sym (have-not c.args.with_action c.args.profile c.args.opcode _ c.loop-entry.entry-index _
    c.loop-entry-test.true (sym c.is_of.ensures ∙ c.if-is_of.true)
    (sym c.has_action_if.ensures ∙ c.if-not-has_action_if.true)) ∙ c.loop-entry.invariant

pub loop-entry-preserved : goal.loop-entry-preserved
loop-entry-preserved c =
    elim c.else-is_of.branch [
      | goal.else-is_of-via-then-is_of+else-not-has_action_if w ↦
          sym (have-this c.args.with_action c.args.profile c.args.opcode _ c.loop-entry.entry-index _
          c.loop-entry-test.true (sym c.is_of.ensures ∙ w.if-is_of.true)
          (sym w.has_action_if.ensures ∙ w.if-not-has_action_if.false))
          ∙ c.loop-entry.invariant
      | goal.else-is_of-via-else-is_of w ↦
          sym (have-other c.args.with_action c.args.profile c.args.opcode _ c.loop-entry.entry-index _
          c.loop-entry-test.true (sym c.is_of.ensures ∙ w.if-is_of.false)) ∙ c.loop-entry.invariant
    ]
