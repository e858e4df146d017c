use Rattle.std.proofs.Common.{◌≡◌}
use Rattle.sg_copy.proofs.CheckLemmas.{types-from}
use Rattle.sg_copy.proofs.copy_list.check_cscds.Given as goal

-- the descriptors so far are of the supported type
abbrev pub invariant-loop-id : goal.invariant-loop-id
invariant-loop-id l = record {
  same : types-from l.list 0 ≡ types-from l.list l.id;
}
