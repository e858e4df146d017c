use Rattle.std.proofs.Common.{ap, drop, sym, ◌+◌, ◌∙◌}
use Rattle.std.specs.List.{flat_map}
use Rattle.sg_wire.specs.Cut.{answer_of}
use Rattle.sg_wire.specs.CutAnswer.{put}
use Rattle.sg_wire.specs.SupportedOperations.{command_descriptor}
use Rattle.sg_wire.specs.Table.{layouts_in}
use Rattle.sg_wire.proofs.SupportedLemmas.{in-no, in-yes}
use Rattle.sg_wire.proofs.command.supported.put_descriptors.Goals.{else-is_in, then-is_in}
use Rattle.sg_wire.proofs.command.supported.put_descriptors.Goals as goal

pub loop-entry-preserved : goal.loop-entry-preserved
loop-entry-preserved c =
    let left = layouts_in c.args.profile (drop (c.loop-entry.entry-index + 1) c.args.entries.now) in
    elim c.if-is_in.branch [
      | then-is_in w ↦
          ap (λ a. put a (flat_map (command_descriptor c.args.timeouts) left))
          (ap answer_of w.cut-is ∙ w.put_descriptor.ensures)
          ∙ c.parts_are_put_in_turn.ensures.in_turn _ _ _
          ∙ ap (λ ls. put (answer_of c.loop-entry.cut) (flat_map (command_descriptor c.args.timeouts) ls))
          (sym (in-yes c.args.profile c.args.entries.now c.loop-entry.entry-index _
          c.loop-entry-test.true (sym c.is_in.ensures ∙ w.if-is_in.true)))
          ∙ c.loop-entry.invariant
      | else-is_in w ↦
          ap (λ cut. put (answer_of cut) (flat_map (command_descriptor c.args.timeouts) left)) w.cut-is
          ∙ ap (λ ls. put (answer_of c.loop-entry.cut) (flat_map (command_descriptor c.args.timeouts) ls))
          (sym (in-no c.args.profile c.args.entries.now c.loop-entry.entry-index _
          c.loop-entry-test.true (sym c.is_in.ensures ∙ w.if-is_in.false)))
          ∙ c.loop-entry.invariant
    ]
