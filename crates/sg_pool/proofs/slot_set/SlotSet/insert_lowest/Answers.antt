use Rattle.std.proofs.Common.{ℕ, arith}
use Rattle.sg_pool.specs.SlotSets.{bit_of}
use Rattle.sg_pool.proofs.SlotSetLemmas.{lowest-le, zeros-first, zeros-member}
use Rattle.sg_pool.proofs.slot_set.SlotSet.insert_lowest.Goals as goal

pub overflow_cast-result : goal.overflow_cast-result
overflow_cast-result c =
    record { fits = omega (arith, c.lowest_absent-slot.ensures.below, c.requires.set.size) }

pub returns-clause-absent : goal.returns-clause-absent
returns-clause-absent c =
    let old = c.args.self.now in
    let f : ℕ → ℕ = bit_of old.slots.words.items in
    let g : ℕ → ℕ = bit_of c.insert.new.self.slots.words.items in
    let low = c.lowest_absent-slot.ensures in
    let e = c.insert.ensures in
    rw e.count (zeros-first f g c.lowest_absent-slot.result 0 old.count (omega arith)
    (omega (arith, low.below)) low.absent low.lowest e.bit e.others)

pub returns-clause-lowest : goal.returns-clause-lowest
returns-clause-lowest c = λ other some.
    let old = c.args.self.now in
    let f : ℕ → ℕ = bit_of old.slots.words.items in
    lowest-le f c.lowest_absent-slot.result other c.lowest_absent-slot.ensures.lowest
    (zeros-member f other 0 old.count some)
