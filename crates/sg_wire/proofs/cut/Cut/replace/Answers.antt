use Rattle.std.proofs.Common.{arith, length-take}
use Rattle.sg_wire.specs.Cut.{answer_of}
use Rattle.sg_wire.proofs.CutLemmas.{replace-copied}
use Rattle.sg_wire.proofs.cut.Cut.replace.Goals as goal

pub returns : goal.returns
unfolding answer_of
returns c =
    let s = c.args.self.now in
    replace-copied s.buf.ghost_name c.args.at c.min-count.result s.len s.limit s.buf.now
    c.args.bytes.now
    c.copy_from_slice.new.self
    (omega (arith, c.requires, length-take s.len s.buf.now))
    (omega arith) c.min-count.ensures c.copy_from_slice.ensures.after
