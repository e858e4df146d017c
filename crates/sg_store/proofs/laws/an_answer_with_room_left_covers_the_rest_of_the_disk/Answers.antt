use Rattle.sg_store.proofs.ReportLemmas.{covers-rest}
use Rattle.sg_store.proofs.laws.an_answer_with_room_left_covers_the_rest_of_the_disk.Goals as goal

pub returns : goal.returns
returns c = covers-rest
