use Rattle.std.proofs.Common.{length}
use Rattle.sg_changes.proofs.ReplayLemmas.{SoFar}
use Rattle.sg_changes.proofs.parts.KeptParts.replay.Given as goal

abbrev pub invariant-loop-rest : goal.invariant-loop-rest
invariant-loop-rest g l = SoFar l.batch l.rest l.fn.self l.self

abbrev pub decreases-loop-rest : goal.decreases-loop-rest
decreases-loop-rest g l = length l.rest
