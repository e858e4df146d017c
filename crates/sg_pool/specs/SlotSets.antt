-- A set of slots: a bit for each slot, in words of 64 bits.
use Rattle.std.specs.Prelude.{◌≡◌, ℕ, ◌+◌, ◌-◌, ◌/◌, ◌%◌, ◌^◌, ◌<◌, ◌↔◌, ◌==◌, List, length, slice_index}
use Rattle.std.specs.Int.{bit_at}
use Rattle.std.specs.List.{filter, range_with_len}
use Rattle.sg_pool.specs.declared.slot_set.SlotSet.{SlotSet}

-- The bit of a number. It is 0 for each number past the last word.
abbrev pub bit_of : (words : List ℕ) → ℕ → ℕ
bit_of words number = bit_at (slice_index words (number / 64)) (number % 64)

-- The `count` numbers from one on for which a function is 0.
abbrev pub zeros_from : (ℕ → ℕ) → (from count : ℕ) → List ℕ
zeros_from f from count = filter (λ number. f number == 0) (range_with_len from count)

-- The numbers below `count` whose bit is 0, in ascending order.
abbrev pub zeros_in : (words : List ℕ) → (count : ℕ) → List ℕ
zeros_in words count = zeros_from (bit_of words) 0 count

-- The slots that are not in a set, in ascending order.
abbrev pub absent_slots : SlotSet → List ℕ
absent_slots set = zeros_in set.slots.words.items set.count

-- A word whose bits are all 1.
abbrev pub full_word : ℕ
full_word = 2 ^ 64 - 1

-- The bit of a word is 1 if the word is full, and otherwise 0.
abbrev pub IsSummary : (words summary : List ℕ) → Type 0
IsSummary words summary = (word : ℕ)
    → (slice_index words word ≡ full_word) ↔ (bit_of summary word ≡ 1)

-- A set of the slots below a count, with two summaries, one over the other.
pub record IsSlotSet (set : SlotSet) : Type 0 where
  pub size : set.count < 2 ^ 32
  pub words : length set.slots.words.items ≡ set.count / 64 + 1
  pub full_words : length set.full.words.items ≡ length set.slots.words.items / 64 + 1
  pub full_groups : length set.full_groups.words.items ≡ length set.full.words.items / 64 + 1
  pub full : IsSummary set.slots.words.items set.full.words.items
  pub groups : IsSummary set.full.words.items set.full_groups.words.items
