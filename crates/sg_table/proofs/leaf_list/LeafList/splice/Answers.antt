use Rattle.std.proofs.Common.{◌≡◌, ap, ◌∙◌, arith, length, set}
use Rattle.sg_table.specs.LeafList.{LeafRow}
use Rattle.sg_table.specs.Leaves.{leaf_at}
use Rattle.sg_table.proofs.LeafListLemmas.{count-leaves, empty-apart, order-below, leaf-in}
use Rattle.sg_table.proofs.LeafListLemmas.{slots-set, same-list}
use Rattle.sg_table.proofs.leaf_list.LeafList.splice.Goals as goal

-- the leaf that is in the slot
abbrev read : (c : goal.After-index_mut)
    → c.index_mut.result.now ≡ leaf_at c.args.self.now.leaves c.args.index
read c =
    let p = c.self.inside in
    leaf-in p.slots.items p.order.items p.free.items c.args.self.now.leaves c.args.index
    c.index.result.now _ c.self.invariant.0 (ap (λ (l : LeafRow). l.leaves) c.self.view_is)
    c.requires.leaf c.index.ensures c.index_mut.ensures.value

pub index_mut-requires : goal.index_mut-requires
index_mut-requires c =
    let p = c.self.inside in
    let same = ap (λ (l : LeafRow). l.leaves) c.self.view_is in
    let count = count-leaves p.slots.items p.order.items c.args.self.now.leaves same in
    omega (
      arith,
      c.index.ensures,
      order-below p.slots.items p.order.items p.free.items c.args.index c.index.result.now
          c.self.invariant.0 (omega (arith, count)),
    )

pub splice-requires-clause-range : goal.splice-requires-clause-range
splice-requires-clause-range c =
    (c.requires.range.0, omega (arith, c.requires.range.1, ap length (read c)))

pub splice-requires-clause-room : goal.splice-requires-clause-room
splice-requires-clause-room c = omega (arith, c.requires.room, ap length (read c))

pub invariant_of-self : goal.invariant_of-self
invariant_of-self c =
    let p = c.self.inside in
    let same = ap (λ (l : LeafRow). l.leaves) c.self.view_is in
    let count = count-leaves p.slots.items p.order.items c.args.self.now.leaves same in (
      (slots-set p.slots.items p.order.items p.free.items c.args.self.now.leaves c.args.index
          c.index.result.now c.splice.new.self c.self.invariant.0 same c.requires.leaf
          c.index.ensures).0,
      c.self.invariant.1,
      c.self.invariant.2,
      c.self.invariant.3,
      empty-apart p.slots.items p.order.items p.free.items c.args.index c.index.result.now
          c.index.result.now c.splice.new.self c.self.invariant.0 c.self.invariant.4
          (omega (arith, count, c.requires.leaf)) c.index.ensures,
    )

pub returns : goal.returns
returns c =
    let p = c.self.inside in
    let ls = c.args.self.now.leaves in
    let same = ap (λ (l : LeafRow). l.leaves) c.self.view_is in
    let old = leaf-in p.slots.items p.order.items p.free.items ls c.args.index c.index.result.now _
    c.self.invariant.0 same c.requires.leaf c.index.ensures c.index_mut.ensures.value in
    let is = slots-set p.slots.items p.order.items p.free.items ls c.args.index c.index.result.now
    c.splice.new.self c.self.invariant.0 same c.requires.leaf c.index.ensures in
    same-list _ _ _ _ (is.1 ∙ ap (set ls c.args.index) (rw old at c.splice.ensures))
    (ap (λ (l : LeafRow). l.capacity) c.self.view_is)
