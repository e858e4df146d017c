-- Jumps over the links of chains, and leaps over jumps. Each is derived from the links: it says only
-- what the links say.
use Rattle.std.specs.Prelude.{◌≡◌, ℕ, zero, suc, ◌+◌, ◌<◌, ◌≤◌, List, [], ◌∷◌, length, slice_index}
use Rattle.sg_pool.specs.Chains.{slot_after}
use Rattle.sg_pool.specs.declared.jumps.Jumps.{Jumps}
use Rattle.sg_pool.specs.declared.leaps.Leaps.{Leaps}

-- The most links that a jump goes over, and the most jumps that a leap goes over.
abbrev pub segment : ℕ
segment = 64

-- A slot `s` jumps over `count` links, or 0, and comes to its target. Each slot whose link is jumped
-- over has `s` as its owner. So at most one jump goes over a link.
pub record AreJumpsOver (next owner count target : List ℕ) : Type 0 where
  pub owners : length owner ≡ length next
  pub jumps : length count ≡ length next
  pub targets : length target ≡ length next
  pub within : (t : ℕ) → t < length next → slice_index owner t < length next
  pub short : (s : ℕ) → slice_index count s ≤ segment
  pub leads : (s : ℕ) → 0 < slice_index count s
      → slot_after next s (slice_index count s) ≡ slice_index target s
  pub owns : (s j : ℕ) → j < slice_index count s → slice_index owner (slot_after next s j) ≡ s

-- The number of links that `count` jumps from a slot on go over.
unfoldable pub span : (jump target : List ℕ) → (first count : ℕ) → ℕ
span jump target first zero = 0
span jump target first (suc count) =
    slice_index jump first + span jump target (slice_index target first) count

-- A leap goes over jumps as a jump goes over links. Each of these jumps is there, and `reach` is the
-- number of links that they go over.
pub record AreLeapsOver (jump target owner count landing reach : List ℕ) : Type 0 where
  pub derived : AreJumpsOver target owner count landing
  pub reaches : length reach ≡ length target
  pub alive : (s j : ℕ) → j < slice_index count s → 0 < slice_index jump (slot_after target s j)
  pub spans : (s : ℕ) → 0 < slice_index count s
      → slice_index reach s ≡ span jump target s (slice_index count s)

-- Whatever the leaps over the old jumps are, they are leaps over the new ones.
abbrev pub KeepLeaps : (jump target jump' target' : List ℕ) → Type 0
KeepLeaps jump target jump' target' = (owner count landing reach : List ℕ)
    → AreLeapsOver jump target owner count landing reach
    → AreLeapsOver jump' target' owner count landing reach

-- From a slot on there are leaps over these numbers of links, one after the other.
abbrev pub AreLeapsAhead : (next count reach : List ℕ) → (first : ℕ) → List ℕ → Type 0
AreLeapsAhead next count reach first [] = Unit
AreLeapsAhead next count reach first (n ∷ ns) = (0 < slice_index count first) × (0 < n)
    × (slice_index reach first ≡ n) × AreLeapsAhead next count reach (slot_after next first n) ns

abbrev pub AreJumps : (next : List ℕ) → Jumps → Type 0
AreJumps next jumps = AreJumpsOver next jumps.owner.items jumps.count.items jumps.target.items

abbrev pub AreLeaps : Jumps → Leaps → Type 0
AreLeaps jumps leaps = AreLeapsOver jumps.count.items jumps.target.items
    leaps.owner.items leaps.count.items leaps.landing.items leaps.reach.items
