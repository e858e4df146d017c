use Rattle.std.proofs.Common.{rules}
use Rattle.sg_target.specs.Target.{disk_of}
use Rattle.sg_embed.proofs.opening.find_disk.Goals as goal

pub returns-in-Err-compare-clause-not_found : goal.returns-in-Err-compare-clause-not_found
returns-in-Err-compare-clause-not_found c = record {
  disk = disk_of c.in-Ok.disk.target;
  opened = c.in-Ok.ensures.opened;
  differs = search rules;
}
