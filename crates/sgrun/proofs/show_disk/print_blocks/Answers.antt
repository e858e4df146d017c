use Rattle.std.proofs.Common.{rules}
use Rattle.sg_wire.proofs.PrintingLemmas.{Prints-on, Sends-printed}
use Rattle.sgrun.proofs.show_disk.print_blocks.Goals as goal

pub returns : goal.returns
returns g c =
    Sends-printed g.W.Write.contents _ _ _ _ _ _ _ _ c.requires c.new-out.ensures
    (Prints-on c.put.ensures c.put_runs.ensures) c.finish.ensures.finishes (λ e. search rules)
