use Rattle.std.proofs.Common.{◌≡◌, ◌<◌, ◌≤◌, ap, ◌∙◌, arith}
use Rattle.sg_wire.specs.declared.lba_status.StatusDescriptor.{StatusDescriptor}
use Rattle.sgrun.proofs.ShownDiskLemmas.{all-printed, one-printed, run_at}
use Rattle.sgrun.proofs.show_disk.put_runs.Goals as goal

pub loop-next-preserved : goal.loop-next-preserved
loop-next-preserved g c =
    let i = c.loop-next.invariant in
    let disk = c.args.target.now.state.disk in
    let next = c.loop-next.next in
    let below : next < disk.capacity =
    omega (arith, c.loop-next-test.true, c.capacity-capacity.ensures) in
    let run : c.run_at-run.result ≡ run_at disk next = rw i.state at c.run_at-run.ensures.run in
    let count : c.from-next.result ≡ (run_at disk next).count =
    c.from-next.ensures ∙ ap (λ (r : StatusDescriptor). r.count) run in
    record {
      printed = rw count (one-printed _ _ _ disk next
          (λ lba within. (c.runs_make_the_disk.ensures.found disk.contents disk.capacity lba within).some)
          below i.printed (rw run at c.put_run.ensures));
      state = c.run_at-run.ensures.state ∙ i.state;
    }

pub returns : goal.returns
returns g c =
    let disk = c.args.target.now.state.disk in
    let past : disk.capacity ≤ c.loop-next.next =
    omega (arith, c.loop-next-test.false, c.capacity-capacity.ensures) in
    all-printed _ _ disk c.loop-next.next past c.loop-next.invariant.printed
