use Rattle.sg_wire.proofs.CutLemmas.{put-nil, put-put}
use Rattle.sg_wire.proofs.laws.parts_are_put_in_turn.Goals as goal

pub returns : goal.returns
returns c = record { in_turn = put-put; nothing = put-nil }
