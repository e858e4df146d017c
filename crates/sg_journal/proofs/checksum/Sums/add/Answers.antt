use Rattle.std.proofs.Common.{◌≡◌, ℕ, ◌+◌, ◌%◌, ◌^◌, List, ap, sym, ◌∙◌}
use Rattle.std.proofs.Math.Nat.{mod-add-mod}
use Rattle.sg_journal.specs.Layout.{sum_of_sums}
use Rattle.sg_journal.proofs.Sums.{sum_push, sums_push, sum_of_rests}
use Rattle.std.specs.Prelude.{sum}
use Rattle.sg_journal.proofs.checksum.Sums.add.Goals as goal

pub returns : goal.returns
returns c = λ (words : List ℕ) are.
    let w = c.args.word in
    let one : (c.args.self.now.sum + w) % 2 ^ 32 ≡ (sum words % 2 ^ 32 + w) % 2 ^ 32 =
    ap (λ (n : ℕ). (n + w) % 2 ^ 32) are.sum_is in
    record {
      sum_is = one ∙ mod-add-mod (sum words) (2 ^ 32) w
          ∙ ap (λ (n : ℕ). n % 2 ^ 32) (sym (sum_push words w));
      sum_of_sums_is =
          ap (λ (n : ℕ). (c.args.self.now.sum_of_sums + n) % 2 ^ 32) one
          ∙ ap (λ (n : ℕ). (n + (sum words % 2 ^ 32 + w) % 2 ^ 32) % 2 ^ 32) are.sum_of_sums_is
          ∙ sum_of_rests (sum_of_sums words) (sum words) w (2 ^ 32)
          ∙ ap (λ (n : ℕ). n % 2 ^ 32) (sym (sums_push words w));
    }
