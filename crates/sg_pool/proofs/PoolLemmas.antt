-- Blocks of a pool: the first ones are given, and the others are zeros.
use Rattle.std.proofs.Common.{◌≡◌, ℕ, ◌+◌, ◌-◌, ◌<◌, ◌≤◌, List, ◌++◌, length, get_or, set, arith}
use Rattle.std.proofs.Common.{sym, ap, refl, inl, inr, ◌∙◌, Bor, replicate, length-append}
use Rattle.std.proofs.lemmas.List.{append_assoc, length-replicate, replicate-append-replicate}
use Rattle.std.proofs.lemmas.List.{get_or-replicate, get_or_append_left, get_or-append_right}
use Rattle.std.proofs.lemmas.List.{set-append_left, length-set}
use Rattle.std.proofs.Math.ListN.{get_or-eq_default}
use Rattle.std.proofs.lemmas.Bool.{cases_lt}
use Rattle.std.specs.Option.{option_map}
use Rattle.std.specs.Prelude.{unwrap_or, Option, Some, None}
use Rattle.sg_store.specs.Disk.{zero_block, Mapping}
use Rattle.sg_store.specs.Disk.Mapping.{Data, Anchored}
use Rattle.sg_pool.specs.MappedRecords.{filled_slot}
use Rattle.sg_pool.specs.Slots.{zero_padded}

pub length-padded : (blocks : List (List ℕ)) (n : ℕ) → length blocks ≤ n
    → length (zero_padded blocks n) ≡ n
length-padded blocks n le = omega (
  arith,
  length-append blocks (replicate (n - length blocks) zero_block),
  length-replicate (n - length blocks) zero_block,
)

-- blocks of zeros that are given are no others
pub padded-more : (blocks : List (List ℕ)) (k n : ℕ) → length blocks + k ≤ n
    → zero_padded (blocks ++ replicate k zero_block) n ≡ zero_padded blocks n
padded-more blocks k n le =
    let len = length-append blocks (replicate k zero_block) in
    let rest : n - length (blocks ++ replicate k zero_block) ≡ n - length blocks - k =
    omega (arith, len, length-replicate k zero_block) in
    let all : k + (n - length blocks - k) ≡ n - length blocks = omega arith in
    append_assoc blocks (replicate k zero_block) _
    ∙ ap (λ m. blocks ++ (replicate k zero_block ++ replicate m zero_block)) rest
    ∙ ap (λ xs. blocks ++ xs)
    (replicate-append-replicate k (n - length blocks - k) zero_block
    ∙ ap (λ m. replicate m zero_block) all)

-- a block that is given
pub padded-read : (blocks : List (List ℕ)) (slot n : ℕ) (d : List ℕ) → slot < length blocks
    → get_or (zero_padded blocks n) slot d ≡ get_or blocks slot d
padded-read blocks slot n d lt = get_or_append_left blocks _ d slot lt

zeros-read : (n i : ℕ) → get_or (replicate n zero_block) i zero_block ≡ zero_block
zeros-read n i = elim (cases_lt i n) [
  | inl lt ↦ get_or-replicate n i zero_block zero_block lt
  | inr ge ↦ get_or-eq_default (replicate n zero_block) zero_block
      (omega (arith, ge, length-replicate n zero_block))
]

-- one that is not
pub padded-zero : (blocks : List (List ℕ)) (slot n : ℕ) → length blocks ≤ slot
    → get_or (zero_padded blocks n) slot zero_block ≡ zero_block
padded-zero blocks slot n le =
    get_or-append_right blocks _ (length blocks) slot zero_block refl le
    ∙ zeros-read (n - length blocks) (slot - length blocks)

-- a block of a slot is put
pub length-filled : (blocks : List (List ℕ)) (slot : ℕ) (x : Mapping)
    → length (filled_slot blocks slot x) ≡ length blocks
length-filled blocks slot (Data block) = length-set blocks slot block
length-filled blocks slot Anchored = refl

pub padded-set : (blocks : List (List ℕ)) (slot n : ℕ) (block : List ℕ) → slot < length blocks
    → zero_padded (set blocks slot block) n ≡ set (zero_padded blocks n) slot block
padded-set blocks slot n block lt =
    ap (λ k. set blocks slot block ++ replicate (n - k) zero_block) (length-set blocks slot block)
    ∙ sym (set-append_left blocks _ slot block lt)

-- a block of a slot, whether it is given or not
pub padded-either : (blocks : List (List ℕ)) (slot n : ℕ)
    → get_or blocks slot zero_block ≡ get_or (zero_padded blocks n) slot zero_block
padded-either blocks slot n = elim (cases_lt slot (length blocks)) [
  | inl lt ↦ sym (padded-read blocks slot n zero_block lt)
  | inr ge ↦ get_or-eq_default blocks zero_block ge ∙ sym (padded-zero blocks slot n ge)
]

pub now-or : (o : Option (Bor (List ℕ))) (d : Bor (List ℕ))
    → (unwrap_or o d).now ≡ unwrap_or (option_map (λ (b : Bor (List ℕ)). b.now) o) d.now
now-or None d = refl
now-or (Some b) d = refl
