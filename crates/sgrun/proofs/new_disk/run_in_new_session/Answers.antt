use Rattle.std.proofs.Common.{inl}
use Rattle.sgrun.proofs.new_disk.run_in_new_session.Goals as goal

pub returns : goal.returns
returns g c = inl (record {
  ran = c.run_script.result;
  runs = c.run_script.ensures.runs tt;
  result_is = c.outcome_of_run.ensures;
})
