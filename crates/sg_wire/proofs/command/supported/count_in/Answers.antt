use Rattle.std.proofs.Common.{ap, arith, length, sym, ◌∙◌}
use Rattle.sg_wire.proofs.SupportedLemmas.{in-no, in-yes}
use Rattle.sg_wire.proofs.command.supported.count_in.Goals.{else-is_in, then-is_in}
use Rattle.sg_wire.proofs.command.supported.count_in.Goals as goal

pub loop-entry-preserved : goal.loop-entry-preserved
loop-entry-preserved c =
    elim c.if-is_in.branch [
      | then-is_in w ↦
          let this = in-yes c.args.profile c.args.entries.now c.loop-entry.entry-index _
          c.loop-entry-test.true (sym c.is_in.ensures ∙ w.if-is_in.true) in
          record {
            all = omega (arith, w.count-is, ap length this, c.loop-entry.invariant.all);
            bound = omega (arith, w.count-is, c.loop-entry.invariant.bound);
          }
      | else-is_in w ↦
          let this = in-no c.args.profile c.args.entries.now c.loop-entry.entry-index _
          c.loop-entry-test.true (sym c.is_in.ensures ∙ w.if-is_in.false) in
          record {
            all = omega (arith, w.count-is, ap length this, c.loop-entry.invariant.all);
            bound = omega (arith, w.count-is, c.loop-entry.invariant.bound);
          }
    ]
