use Rattle.std.proofs.Common.{◌/◌, arith, refl}
use Rattle.sg_pool.proofs.SlotSetLemmas.{summary-full, summary-open, summary-zero}
use Rattle.sg_pool.proofs.slot_set.SlotSet.insert.Goals as goal

pub returns-then-not-insert-clause-set : goal.returns-then-not-insert-clause-set
returns-then-not-insert-clause-set c =
    let old = c.args.self.now in
    let r = c.requires.set in
    let a = c.insert.ensures in
    record {
      size = r.size;
      words = omega (arith, a.count, r.words);
      full_words = omega (arith, a.count, r.full_words);
      full_groups = r.full_groups;
      full = summary-open old.slots.words.items old.full.words.items c.insert.new.self.words.items
          c.args.slot r.full a.words (λ e. let wrong = c.if-not-insert.ensures.full.1 e in cc)
          c.requires.absent;
      groups = r.groups;
    }

pub returns-then-not-insert-2-clause-set : goal.returns-then-not-insert-2-clause-set
returns-then-not-insert-2-clause-set c =
    let old = c.args.self.now in
    let r = c.requires.set in
    let a = c.insert.ensures in
    let b = c.insert-2.ensures in
    let word = summary-zero old.slots.words.items old.full.words.items c.args.slot r.full
    c.requires.absent in
    record {
      size = r.size;
      words = omega (arith, a.count, r.words);
      full_words = omega (arith, a.count, b.count, r.full_words);
      full_groups = omega (arith, b.count, r.full_groups);
      full = summary-full old.slots.words.items old.full.words.items c.insert.new.self.words.items
          c.args.slot r.full a.words c.insert-2.new.self.words.items (c.if-not-insert.ensures.full.0 refl)
          b.bit b.others;
      groups = summary-open old.full.words.items old.full_groups.words.items
          c.insert-2.new.self.words.items (c.args.slot / 64) r.groups b.words
          (λ e. let wrong = c.if-not-insert-2.ensures.full.1 e in cc) word;
    }

pub returns-clause-set : goal.returns-clause-set
returns-clause-set c =
    let old = c.args.self.now in
    let r = c.requires.set in
    let a = c.insert.ensures in
    let b = c.insert-2.ensures in
    let d = c.insert-3.ensures in
    record {
      size = r.size;
      words = omega (arith, a.count, r.words);
      full_words = omega (arith, a.count, b.count, r.full_words);
      full_groups = omega (arith, b.count, d.count, r.full_groups);
      full = summary-full old.slots.words.items old.full.words.items c.insert.new.self.words.items
          c.args.slot r.full a.words c.insert-2.new.self.words.items (c.if-not-insert.ensures.full.0 refl)
          b.bit b.others;
      groups = summary-full old.full.words.items old.full_groups.words.items
          c.insert-2.new.self.words.items (c.args.slot / 64) r.groups b.words
          c.insert-3.new.self.words.items (c.if-not-insert-2.ensures.full.0 refl) d.bit d.others;
    }
