use Rattle.sg_store.proofs.NeedLemmas.{len-needed, need-le, need-next, need-none}
use Rattle.sg_store.proofs.WriteLemmas.{get-remapped}
use Rattle.sg_store.proofs.laws.remapping_takes_what_is_needed.Goals as goal

pub returns : goal.returns
returns c = record {
  found = get-remapped;
  taken = len-needed;
  at_most = need-le;
  of_none = need-none;
  of_one_more = need-next;
}
