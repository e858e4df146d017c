use Rattle.crashes.specs.Ready.{IsReady}
use Rattle.crashes.proofs.run.do_steps.Given as goal

abbrev pub invariant-loop-step : goal.invariant-loop-step
invariant-loop-step g l = record {
  ready : IsReady l.disk;
}
