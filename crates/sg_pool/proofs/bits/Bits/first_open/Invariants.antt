use Rattle.std.proofs.Common.{◌≡◌, ℕ, ◌<◌, slice_index}
use Rattle.sg_pool.specs.SlotSets.{full_word}
use Rattle.sg_pool.proofs.bits.Bits.first_open.Given as goal

-- the words so far are full
abbrev pub invariant-loop-word : goal.invariant-loop-word
invariant-loop-word l = (word : ℕ) → word < l.word
    → slice_index l.self.words.items word ≡ full_word
