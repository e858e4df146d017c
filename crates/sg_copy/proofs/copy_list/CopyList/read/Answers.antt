use Rattle.std.proofs.Common.{sym, rules}
use Rattle.std.proofs.lemmas.Result.{err_from_is_err_and}
use Rattle.sg_copy.proofs.CheckLemmas.{list_refuses, copy_refuses}
use Rattle.sg_copy.proofs.copy_list.CopyList.read.Goals as goal

pub returns-in_err-check_list : goal.returns-in_err-check_list
returns-in_err-check_list c =
    let p = err_from_is_err_and c.from_residual.result c.from_residual.ensures.1 in
    rw (p.1, p.2) (record {
      value = sym (list_refuses c.args.designation.now c.args.maximum_blocks c.args.capacity
          c.args.list.now _ (search rules) c.in_err-check_list.ensures.refused);
      possible = tt;
    })

pub returns-in_err-check_copy : goal.returns-in_err-check_copy
returns-in_err-check_copy c =
    let exit = c.from_residual-in_err-check_copy in
    let p = err_from_is_err_and exit.result exit.ensures.1 in
    rw (p.1, p.2) (record {
      value = sym (copy_refuses c.args.designation.now c.args.maximum_blocks c.args.capacity
          c.args.list.now _ (search rules) c.in_ok-check_list.ensures.passed (search rules)
          c.in_err-check_copy.ensures.refused);
      possible = tt;
    })
