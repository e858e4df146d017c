use Rattle.std.proofs.Common.{◌+◌, ◌/◌, ℕ, length, ap, sym, ◌∙◌, arith}
use Rattle.std.proofs.lemmas.List.{length-replicate}
use Rattle.sg_pool.specs.SlotSets.{bit_of}
use Rattle.sg_pool.proofs.SlotSetLemmas.{bit-none, summary-none, zeros-all}
use Rattle.sg_pool.proofs.slot_set.SlotSet.new.Goals as goal

pub returns-clause-set : goal.returns-clause-set
returns-clause-set c =
    let n = c.args.count / 64 + 1 in
    let m = n / 64 + 1 in
    let slots = c.in_ok-new.ensures in
    let full = c.in_ok-new-2.ensures in
    let groups = c.in_ok-new-3.ensures in
    let a = ap length slots ∙ length-replicate {A = ℕ} n 0 in
    let b = ap length full ∙ length-replicate {A = ℕ} m 0 in
    let d = ap length groups ∙ length-replicate {A = ℕ} (m / 64 + 1) 0 in
    record {
      size = omega arith;
      words = a;
      full_words = b ∙ ap (λ k. k / 64 + 1) (sym a);
      full_groups = d ∙ ap (λ k. k / 64 + 1) (sym b);
      full = rw (slots, full) (summary-none n m);
      groups = rw (full, groups) (summary-none m (m / 64 + 1));
    }

pub returns-clause-absent : goal.returns-clause-absent
returns-clause-absent c = zeros-all (bit_of c.in_ok-new.field-0.words.items) 0 c.args.count
    (λ m. ap (λ ws. bit_of ws m) c.in_ok-new.ensures ∙ bit-none (c.args.count / 64 + 1) m)
