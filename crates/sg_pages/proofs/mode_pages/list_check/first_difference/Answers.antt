use Rattle.std.proofs.Common.{◌∙◌, ap, sym, arith}
use Rattle.sg_pages.specs.ModeSelect.{least}
use Rattle.sg_pages.proofs.FaultLemmas.{rest-same, rest-differs, rest-none}
use Rattle.sg_pages.proofs.mode_pages.list_check.first_difference.Goals as goal

pub loop-k-preserved : goal.loop-k-preserved
loop-k-preserved c =
    rest-same c.args.offset c.loop-k.k c.args.expected.now c.args.ignored.now c.args.sent.now
    (omega arith) (omega arith) (omega arith) c.if-sent-k.false ∙ c.loop-k.invariant

pub returns-then-sent-k : goal.returns-then-sent-k
returns-then-sent-k c =
    sym (rest-differs c.args.offset c.loop-k.k c.args.expected.now c.args.ignored.now
    c.args.sent.now (omega arith) (omega arith) (omega arith) c.if-sent-k.true) ∙ c.loop-k.invariant

pub returns : goal.returns
returns c =
    sym (ap least (rest-none c.args.offset c.loop-k.k c.args.expected.now c.args.ignored.now
    c.args.sent.now (omega arith))) ∙ c.loop-k.invariant
