use Rattle.std.proofs.Common.{length}
use Rattle.sg_tools.proofs.NumberListLemmas.{Reading}
use Rattle.sg_tools.proofs.number_list.read_list.Given as goal

-- the entries before the rest are read
abbrev pub invariant-entries : goal.invariant-entries
invariant-entries l = Reading l.limit l.text l.rest l.numbers

abbrev pub decreases-entries : goal.decreases-entries
decreases-entries l = length l.rest
