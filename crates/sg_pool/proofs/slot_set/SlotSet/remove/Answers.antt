use Rattle.std.proofs.Common.{◌≡◌, ◌/◌, ℕ, arith, inl, inr}
use Rattle.std.proofs.lemmas.Bool.{cases_lt}
use Rattle.sg_pool.specs.SlotSets.{bit_of}
use Rattle.sg_pool.proofs.SlotSetLemmas.{bit_of-lt, summary-removed, zeros-gain, zeros-occur}
use Rattle.sg_pool.proofs.slot_set.SlotSet.remove.Goals as goal

pub returns-clause-set : goal.returns-clause-set
returns-clause-set c =
    let old = c.args.self.now in
    let r = c.requires.set in
    let a = c.remove.ensures in
    let b = c.remove-2.ensures in
    let d = c.remove-3.ensures in
    record {
      size = r.size;
      words = omega (arith, a.count, r.words);
      full_words = omega (arith, a.count, b.count, r.full_words);
      full_groups = omega (arith, b.count, d.count, r.full_groups);
      full = summary-removed old.slots.words.items old.full.words.items c.remove.new.self.words.items
          c.args.slot r.full a.words c.remove-2.new.self.words.items a.bit b.bit b.others;
      groups = summary-removed old.full.words.items old.full_groups.words.items
          c.remove-2.new.self.words.items (c.args.slot / 64) r.groups b.words
          c.remove-3.new.self.words.items b.bit d.bit d.others;
    }

pub returns-clause-absent : goal.returns-clause-absent
returns-clause-absent c =
    let old = c.args.self.now in
    let f : ℕ → ℕ = bit_of old.slots.words.items in
    let g : ℕ → ℕ = bit_of c.remove.new.self.words.items in
    let a = c.remove.ensures in
    let one : f c.args.slot ≡ 1 = elim (cases_lt (f c.args.slot) 1) [
      | inl none ↦ absurd (omega (
        arith,
        zeros-occur f c.args.slot 0 old.count (omega arith) (omega (arith, c.requires.slot))
            (omega (arith, none)),
        c.requires.present,
      ))
      | inr some ↦ omega (arith, some, bit_of-lt old.slots.words.items c.args.slot)
    ] in
    zeros-gain f g c.args.slot 0 old.count (omega arith) (omega (arith, c.requires.slot)) one a.bit
    a.others
