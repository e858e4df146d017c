use Rattle.sg_run.specs.FaultText.{faults_text}
use Rattle.sgrun.specs.ShownDisk.{block_lines}
use Rattle.sgrun.proofs.ShownDiskLemmas.{sends-on, sends-stopped}
use Rattle.sgrun.proofs.show_disk.print_disk.Goals as goal

pub returns-in_err-print_facts : goal.returns-in_err-print_facts
returns-in_err-print_facts g c =
    sends-stopped _ _ _ _ _ _ c.in_err-print_facts.ensures c.from_residual.ensures.0

pub returns-in_err-send : goal.returns-in_err-send
returns-in_err-send g c =
    sends-on _ _ _ _ _ _ _ c.in_ok-print_facts.ensures.0
    (sends-stopped _ _ _ _ _ _ c.in_err-send.ensures c.from_residual-in_err-send.ensures.0)

pub returns-in_err-print_faults : goal.returns-in_err-print_faults
returns-in_err-print_faults g c =
    sends-on _ _ _ _ _ _ _ c.in_ok-print_facts.ensures.0
    (sends-on _ _ _ _ _ _ _ c.in_ok-send.ensures.0
    (rw c.profile.ensures at (rw c.faults.ensures at (sends-stopped _ _ _ _
    (faults_text c.profile.result c.faults.result.now) (block_lines c.args.target.now.state.disk)
    c.in_err-print_faults.ensures c.from_residual-in_err-print_faults.ensures.0))))

pub returns : goal.returns
returns g c =
    sends-on _ _ _ _ _ _ _ c.in_ok-print_facts.ensures.0
    (sends-on _ _ _ _ _ _ _ c.in_ok-send.ensures.0
    (sends-on _ _ _ _ _ _ _
    (rw c.profile.ensures at (rw c.faults.ensures at c.in_ok-print_faults.ensures.0))
    c.print_blocks.ensures))
