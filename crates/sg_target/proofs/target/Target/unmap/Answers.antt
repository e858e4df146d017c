use Rattle.std.proofs.Common.{◌<◌, length, ap, ◌∙◌, arith, rules}
use Rattle.std.proofs.lemmas.Bool.Decides.{nat_tests}
use Rattle.sg_store.specs.Meter.{restarted}
use Rattle.sg_target.specs.Target.{TargetFields}
use Rattle.sg_target.proofs.UnmapLemmas.{unmapping-charged}
use Rattle.sg_target.proofs.target.Target.unmap.Goals as goal

pub returns : goal.returns
returns g c =
    let seen = c.self.view_is in
    let anew = c.restart_counts.ensures in
    let some : 0 < length c.args.extents.now = grind (arith, nat_tests) in
    record {
      answer = search rules;
      state = search rules;
      faults = search rules;
      charge =
          unmapping-charged _ _ _ _ _ _ _ _ _
          (anew.disk ∙ ap (λ (t : TargetFields). t.state.disk) seen)
          (anew.meter ∙ ap (λ (t : TargetFields). restarted t.meter) seen)
          some c.unmap_in_turn.ensures.counted c.counts.ensures c.good.ensures;
    }
