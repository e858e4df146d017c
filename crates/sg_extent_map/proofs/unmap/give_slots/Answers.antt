use Rattle.std.proofs.Common.{ℕ, ◌+◌, ap, ◌∙◌, arith, refl, cond}
use Rattle.sg_pool.specs.Slots.{UnlinkedSlots}
use Rattle.sg_store.proofs.DiskLemmas.{above}
use Rattle.sg_table.specs.Occurrences.{occurrences}
use Rattle.sg_extent_map.proofs.UnmapLemmas.{occurrences-range, range-one-more}
use Rattle.sg_extent_map.proofs.unmap.give_slots.Goals as goal

pub give-requires-clause-used : goal.give-requires-clause-used
give-requires-clause-used c =
    let inv = c.loop-given.invariant in
    let first = c.args.first in
    let g = c.loop-given.given in
    let slot : ℕ = first + g in
    let none = occurrences-range slot first g
    ∙ ap (λ b. cond b 1 0) (above first g slot (omega arith)) in
    omega (
      arith,
      inv.each slot,
      none,
      c.requires.used slot (omega arith) (omega (arith, c.loop-given-test.true)),
    )

pub loop-given-init : goal.loop-given-init
unfolding occurrences
loop-given-init c = record {
  each = λ t. omega arith;
  count_is = omega arith;
  pool = refl;
}

pub loop-given-preserved : goal.loop-given-preserved
loop-given-preserved c =
    let inv = c.loop-given.invariant in
    let first = c.args.first in
    let g = c.loop-given.given in
    let free = c.give.ensures.free in
    record {
      each = λ t. omega (arith, free.each t, inv.each t, range-one-more t first g);
      count_is = omega (arith, free.count, inv.count_is);
      pool = c.give.ensures.pool ∙ ap (λ (s : UnlinkedSlots). record s {
        free = c.give.new.self.free;
      }) inv.pool;
    }
