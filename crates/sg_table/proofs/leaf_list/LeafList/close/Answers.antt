use Rattle.std.proofs.Common.{◌≡◌, [], ap, ◌∙◌, arith, set}
use Rattle.std.specs.Prelude.{remove}
use Rattle.sg_table.specs.LeafList.{LeafRow, AreEmpty, AreSlots, leaves_in}
use Rattle.sg_table.proofs.LeafListLemmas.{count-leaves, order-below, slots-clear, slots-remove}
use Rattle.sg_table.proofs.LeafListLemmas.{same-list}
use Rattle.sg_table.proofs.leaf_list.LeafList.close.Goals as goal

pub index_mut-requires : goal.index_mut-requires
index_mut-requires c =
    let p = c.self.inside in
    let same = ap (λ (l : LeafRow). l.leaves) c.self.view_is in
    let count = count-leaves p.slots.items p.order.items c.args.self.now.leaves same in
    omega (
      arith,
      c.remove-slot.ensures.value,
      order-below p.slots.items p.order.items p.free.items c.args.index c.remove-slot.result
          c.self.invariant.0 (omega (arith, count)),
    )

-- the slots without the slot of the leaf, which is cleared
abbrev closed : (c : goal.After-push_reserved)
    → let slots = set c.self.inside.slots.items c.remove-slot.result [] in
    let order = c.remove-slot.new.self.items in
    AreSlots slots order c.push_reserved.new.self.items
    × (leaves_in slots order ≡ remove c.args.self.now.leaves c.args.index)
    × AreEmpty slots c.push_reserved.new.self.items
closed c =
    let p = c.self.inside in
    let s = c.remove-slot.result in
    let order = remove p.order.items c.args.index in
    let removed = slots-remove p.slots.items p.order.items p.free.items c.args.self.now.leaves
    c.args.index s c.self.invariant.0 (ap (λ (l : LeafRow). l.leaves) c.self.view_is) c.requires
    c.remove-slot.ensures.value in
    let clear = slots-clear p.slots.items order p.free.items s removed.0 c.self.invariant.4 in
    rw (c.remove-slot.ensures.items, c.push_reserved.ensures.items)
    (clear.0, clear.1 ∙ removed.1, clear.2)

pub invariant_of-self : goal.invariant_of-self
invariant_of-self c = rw c.clear.ensures (
  (closed c).0,
  omega (arith, c.self.invariant.1, c.remove-slot.ensures.capacity),
  omega (arith, c.self.invariant.2, c.push_reserved.ensures.capacity),
  c.self.invariant.3,
  (closed c).2,
)

pub returns : goal.returns
returns c =
    rw c.clear.ensures
    (same-list _ _ _ _ (closed c).1 (ap (λ (l : LeafRow). l.capacity) c.self.view_is))
