use Rattle.std.proofs.Common.{◌∙◌, Some, ap}
use Rattle.sg_target.specs.Target.{disk_of}
use Rattle.sg_embed.specs.FileDisk.{may_leave, seen}
use Rattle.sg_kept.proofs.CompactionLemmas.{alone-opened}
use Rattle.sg_embed.proofs.steps.begin.Goals as goal

pub returns-in-Ok-clause-in_file : goal.returns-in-Ok-clause-in_file
returns-in-Ok-clause-in_file c =
    let old = c.args.disk.now in
    alone-opened seen may_leave old.journal old.batch (disk_of old.target) c.requires.usable.1.kept
    c.requires.written.0 c.requires.written.1
    ∙ ap Some (c.power_cycles_leave_what_is_kept.ensures.restored (disk_of old.target))

pub returns-in-Err-clause-in_file : goal.returns-in-Err-clause-in_file
returns-in-Err-clause-in_file c =
    let old = c.args.disk.now in
    alone-opened seen may_leave old.journal old.batch (disk_of old.target) c.requires.usable.1.kept
    c.requires.written.0 c.requires.written.1
    ∙ ap Some (c.power_cycles_leave_what_is_kept.ensures.restored (disk_of old.target))
