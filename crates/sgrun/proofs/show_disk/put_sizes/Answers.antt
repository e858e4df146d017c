use Rattle.std.proofs.Common.{◌≡◌, ap, ◌∙◌}
use Rattle.std.specs.FinMap.{len}
use Rattle.sg_target.specs.Config.{ConfigFields}
use Rattle.sg_wire.proofs.PrintingLemmas.{Prints-on}
use Rattle.sgrun.specs.ShownDisk.{size_lines}
use Rattle.sgrun.proofs.show_disk.put_sizes.Goals as goal

pub returns : goal.returns
unfolding size_lines
returns g c =
    let disk = c.args.target.now.state.disk in
    let pool : c.from.result ≡ disk.pool =
    c.from.ensures ∙ c.pool.ensures.value ∙ ap (λ (x : ConfigFields). x.pool) c.config.ensures in
    let used : c.from-2.result ≡ len disk.contents = c.from-2.ensures ∙ c.used_blocks.ensures in
    Prints-on (rw c.capacity.ensures at c.put_number_line.ensures)
    (Prints-on (rw pool at c.put_number_line-2.ensures) (rw used at c.put_number_line-3.ensures))
