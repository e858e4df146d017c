use Rattle.crashes.specs.Ready.{IsReady}
use Rattle.crashes.proofs.run.fill.Given as goal

abbrev pub invariant-loop : goal.invariant-loop
invariant-loop g l = record {
  ready : IsReady l.disk;
}
