use Rattle.std.proofs.Common.{◌≡◌, refl, ap, ◌∙◌, rules}
use Rattle.sg_store.specs.Disk.{Disk}
use Rattle.sg_store.specs.LbaStatus.{descriptor_at}
use Rattle.sg_target.specs.Target.{TargetFields}
use Rattle.sg_target.proofs.RunAtLemmas.{first-run, run-fits}
use Rattle.sg_target.proofs.target.Target.run_at.Goals as goal

pub returns-clause-run : goal.returns-clause-run
returns-clause-run g c =
    let disk : Disk = c.args.self.now.state.disk in
    let same : g.S.Store.disk c.restart_counts.new.self ≡ disk =
    c.restart_counts.ensures.disk ∙ ap (λ (t : TargetFields). t.state.disk) c.self.view_is in
    c.run_of.ensures (descriptor_at disk.contents disk.capacity c.args.lba) _
    (first-run disk _ c.args.lba _ _ same c.requires.on_disk refl
    (c.answers_are_in_their_buffers.ensures.left _ _ _ _ _ _ _ c.new-cut.ensures c.status.ensures.data
    (λ e. search rules)))
    refl (run-fits disk.contents disk.capacity c.args.lba)
