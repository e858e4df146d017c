use Rattle.std.proofs.Common.{ap, arith, length}
use Rattle.sg_table.proofs.LeafListLemmas.{slots-none}
use Rattle.sg_table.proofs.leaf_list.LeafList.new.Goals as goal

pub invariant_of-result : goal.invariant_of-result
invariant_of-result c =
    let slots = c.in_ok-with_capacity.ensures in
    let order = c.in_ok-with_capacity-2.ensures in
    let free = c.in_ok-with_capacity-3.ensures in (
      rw (slots.items, order.items, free.items) slots-none,
      omega (arith, slots.exact, order.capacity),
      omega (arith, slots.exact, free.capacity),
      omega (arith, slots.exact, c.requires),
      λ k d lt. absurd (omega (arith, lt, ap length free.items)),
    )
