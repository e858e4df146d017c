use Rattle.std.proofs.Common.{ap, ◌∙◌}
use Rattle.sg_kept.specs.Opened.{opened}
use Rattle.sgrun.proofs.disk_in_file.reopened.Goals as goal

pub returns-in-Ok-clause-reopened : goal.returns-in-Ok-clause-reopened
returns-in-Ok-clause-reopened g c before stood = record {
  cycle = record { closed = c.args.closed; opened = c.of-opened.result };
  stood = stood;
  found = ap (λ device. opened (g.D.Device.opening device)) c.of-opened.ensures
      ∙ c.in_ok-disk.ensures.opened;
  noted = c.in-Ok.ensures.items;
}
