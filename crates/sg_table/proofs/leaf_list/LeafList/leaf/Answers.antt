use Rattle.std.proofs.Common.{ap, arith}
use Rattle.sg_table.specs.LeafList.{LeafRow}
use Rattle.sg_table.proofs.LeafListLemmas.{count-leaves, order-below, leaf-in}
use Rattle.sg_table.proofs.leaf_list.LeafList.leaf.Goals as goal

pub index-requires-2 : goal.index-requires-2
index-requires-2 c =
    let p = c.self.inside in
    let same = ap (λ (l : LeafRow). l.leaves) c.self.view_is in
    let count = count-leaves p.slots.items p.order.items c.args.self.now.leaves same in
    omega (
      arith,
      c.index.ensures,
      order-below p.slots.items p.order.items p.free.items c.args.index c.index.result.now
          c.self.invariant.0 (omega (arith, count)),
    )

pub returns : goal.returns
returns c =
    let p = c.self.inside in
    leaf-in p.slots.items p.order.items p.free.items c.args.self.now.leaves c.args.index _ _
    c.self.invariant.0 (ap (λ (l : LeafRow). l.leaves) c.self.view_is) c.requires c.index.ensures
    c.index-2.ensures
