use Rattle.std.proofs.Common.{◌≡◌, [], ap, ◌∙◌, sym, arith}
use Rattle.std.specs.Prelude.{insert}
use Rattle.sg_table.specs.LeafList.{LeafRow, AreSlots, leaves_in}
use Rattle.sg_table.proofs.LeafListLemmas.{slots-insert, same-list}
use Rattle.sg_table.proofs.leaf_list.LeafList.open.Goals as goal

-- the slots with the slot of the new leaf
abbrev opened : (c : goal.Else-prove)
    → let slots = c.take_slot-slot.new.slots.items in
    let order = c.insert-inserted.new.self.items in
    AreSlots slots order c.take_slot-slot.new.free.items
    × (leaves_in slots order ≡ insert c.args.self.now.leaves c.args.index [])
opened c =
    let p = c.self.inside in
    let new = c.take_slot-slot.new in
    rw (rw (sym c.is_ok.ensures.value ∙ c.if-prove.false) at c.insert-inserted.ensures.items)
    (slots-insert p.slots.items new.slots.items p.order.items p.free.items new.free.items
    c.args.self.now.leaves c.args.index c.take_slot-slot.result c.self.invariant.0
    (ap (λ (l : LeafRow). l.leaves) c.self.view_is) c.take_slot-slot.ensures.taken c.requires.index)

pub invariant_of-self : goal.invariant_of-self
invariant_of-self c =
    let taken = c.take_slot-slot.ensures in (
      (opened c).0,
      omega (arith, c.self.invariant.1, taken.capacity, c.insert-inserted.ensures.capacity),
      omega (arith, c.self.invariant.2, taken.capacity, taken.free_capacity),
      omega (arith, c.self.invariant.3, taken.capacity),
      taken.empty,
    )

pub returns : goal.returns
returns c =
    same-list _ _ _ _ (opened c).1
    (c.take_slot-slot.ensures.capacity ∙ ap (λ (l : LeafRow). l.capacity) c.self.view_is)
