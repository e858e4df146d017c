use Rattle.sg_run.proofs.StatusAnswerLemmas.{answers-of-walk}
use Rattle.sg_run.proofs.laws.the_answers_of_a_walk_are_the_disks.Goals as goal

pub returns : goal.returns
returns c = answers-of-walk
