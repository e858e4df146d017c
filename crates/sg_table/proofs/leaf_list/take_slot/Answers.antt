use Rattle.std.proofs.Common.{◌≡◌, ◌∙◌, length, arith}
use Rattle.std.proofs.lemmas.List.{append-nil}
use Rattle.sg_table.proofs.LeafListLemmas.{empty-left, empty-new, taken-free, taken-new}
use Rattle.sg_table.proofs.leaf_list.take_slot.Goals as goal

pub returns-in-Some-clause-taken : goal.returns-in-Some-clause-taken
returns-in-Some-clause-taken c =
    taken-free c.args.slots.now.items c.args.free.now.items c.pop.new.self.items
    c.in-Some.slot c.requires.empty c.in-Some.ensures.items

pub returns-in-Some-clause-empty : goal.returns-in-Some-clause-empty
returns-in-Some-clause-empty c =
    empty-left c.args.slots.now.items c.args.free.now.items c.pop.new.self.items
    c.in-Some.slot c.requires.empty c.in-Some.ensures.items

pub returns-clause-taken : goal.returns-clause-taken
returns-clause-taken c =
    let count : c.len-slot.result ≡ length c.args.slots.now.items = omega (arith, c.len-slot.ensures) in
    rw (c.push_reserved.ensures.items, c.new.ensures, count) (taken-new c.args.slots.now.items
    c.args.free.now.items c.pop.new.self.items (c.in_default.ensures.items
    ∙ append-nil c.pop.new.self.items))

pub returns-clause-empty : goal.returns-clause-empty
returns-clause-empty c =
    rw (c.push_reserved.ensures.items, c.new.ensures) (empty-new c.args.slots.now.items
    c.args.free.now.items c.pop.new.self.items c.requires.empty (c.in_default.ensures.items
    ∙ append-nil c.pop.new.self.items))
