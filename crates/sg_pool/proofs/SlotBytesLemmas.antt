-- Blocks that lie one after the other in some bytes.
use Rattle.std.proofs.Common.{◌≡◌, ℕ, ◌+◌, ◌-◌, ◌*◌, ◌<◌, ◌≤◌, zero, suc, List, ◌∷◌, ◌++◌, length, arith}
use Rattle.std.proofs.Common.{take, drop, get_or, set, replicate, refl, sym, ap, ap₂, ◌∙◌}
use Rattle.std.proofs.lemmas.List.{drop-drop, take-append-le, drop-append-le, take-replicate, length-take-le}
use Rattle.std.proofs.lemmas.List.{drop-replicate, length-drop, drop_at, drop-take, length-append}
use Rattle.std.proofs.lemmas.Slice.{take-put_mid_below, drop-put_mid, between-put_mid}
use borrow.Rule.Slice.PartMut.{post_of, put_mid}
use Rattle.sg_store.specs.Disk.{zero_block}
use Rattle.sg_pool.specs.Slots.{blocks_from}

pub length-blocks : (bytes : List ℕ) (at n : ℕ) → length (blocks_from bytes at n) ≡ n
length-blocks bytes at zero = refl
length-blocks bytes at (suc n) = ap (λ k. suc k) (length-blocks bytes (at + 512) n)

-- the block at an index
pub block-read : (bytes : List ℕ) (at n i : ℕ) (d : List ℕ) → i < n
    → get_or (blocks_from bytes at n) i d ≡ take 512 (drop (at + 512 * i) bytes)
block-read bytes at zero i d lt = absurd (omega arith)
block-read bytes at (suc n) zero d lt =
    let here : at ≡ at + 512 * 0 = omega arith in ap (λ p. take 512 (drop p bytes)) here
block-read bytes at (suc n) (suc i) d lt =
    let here : at + 512 + 512 * i ≡ at + 512 * suc i = omega arith in
    block-read bytes (at + 512) n i d (omega arith) ∙ ap (λ p. take 512 (drop p bytes)) here

-- bytes that are the same from a place on have the same blocks there
pub blocks-same : (xs ys : List ℕ) (at n : ℕ) → drop at xs ≡ drop at ys
    → blocks_from xs at n ≡ blocks_from ys at n
blocks-same xs ys at zero e = refl
blocks-same xs ys at (suc n) e =
    let on : drop (at + 512) xs ≡ drop (at + 512) ys =
    sym (drop-drop 512 at xs) ∙ ap (λ zs. drop 512 zs) e ∙ drop-drop 512 at ys in
    ap₂ ◌∷◌ (ap (λ zs. take 512 zs) e) (blocks-same xs ys (at + 512) n on)

-- a part before the place of a write
before-write : (bytes new : List ℕ) (at place : ℕ) → at + 512 ≤ place → place ≤ length bytes
    → take 512 (drop at (put_mid place 512 bytes new)) ≡ take 512 (drop at bytes)
before-write bytes new at place le within =
    sym (drop-take at 512 (put_mid place 512 bytes new))
    ∙ ap (λ zs. drop at zs) (take-put_mid_below place 512 bytes new (at + 512) le within)
    ∙ drop-take at 512 bytes

-- the block at the place of a write
at-write : (bytes new : List ℕ) (place : ℕ) → place ≤ length bytes → length new ≡ 512
    → take 512 (drop place (put_mid place 512 bytes new)) ≡ new
at-write bytes new place within whole =
    let size : place + 512 - place ≡ 512 = omega arith in
    ap (λ k. take k (drop place (put_mid place 512 bytes new))) (sym size)
    ∙ between-put_mid place 512 bytes new (place + 512) within (whole ∙ sym size)

-- a block is put in its place
pub blocks-set : (bytes new : List ℕ) (at n i place : ℕ) → i < n → place ≡ at + 512 * i
    → place ≤ length bytes → length new ≡ 512
    → blocks_from (put_mid place 512 bytes new) at n ≡ set (blocks_from bytes at n) i new
blocks-set bytes new at zero i place lt e within whole = absurd (omega arith)
blocks-set bytes new at (suc n) zero place lt e within whole =
    let here : place ≡ at = omega arith in
    let there : at + 512 ≡ place + 512 = omega arith in
    ap₂ ◌∷◌
    (ap (λ p. take 512 (drop p (put_mid place 512 bytes new))) (sym here)
    ∙ at-write bytes new place within whole)
    (blocks-same (put_mid place 512 bytes new) bytes (at + 512) n
    (drop-put_mid place 512 bytes new (at + 512) (omega arith) within whole))
blocks-set bytes new at (suc n) (suc i) place lt e within whole =
    ap₂ ◌∷◌ (before-write bytes new at place (omega arith) within)
    (blocks-set bytes new (at + 512) n i place (omega arith) (omega arith) within whole)

-- blocks of zeros
zeros-from : (bytes : List ℕ) (at n : ℕ) → drop at bytes ≡ replicate (512 * n) 0
    → blocks_from bytes at n ≡ replicate n zero_block
unfolding zero_block
zeros-from bytes at zero e = refl
zeros-from bytes at (suc n) e =
    let rest : 512 * suc n - 512 ≡ 512 * n = omega arith in
    ap₂ ◌∷◌
    (ap (λ zs. take 512 zs) e ∙ take-replicate 512 (512 * suc n) 0 (omega arith))
    (zeros-from bytes (at + 512) n (sym (drop-drop 512 at bytes) ∙ ap (λ zs. drop 512 zs) e
    ∙ drop-replicate 512 (512 * suc n) 0 ∙ ap (λ k. replicate k 0) rest))

-- zeros behind the blocks are blocks of zeros
pub blocks-more : (bytes : List ℕ) (at k m : ℕ) → length bytes ≡ at + 512 * k
    → blocks_from (bytes ++ replicate (512 * m) 0) at (k + m)
    ≡ blocks_from bytes at k ++ replicate m zero_block
blocks-more bytes at zero m e =
    let here : 0 + m ≡ m = omega arith in
    ap (λ n. blocks_from (bytes ++ replicate (512 * m) 0) at n) here
    ∙ zeros-from (bytes ++ replicate (512 * m) 0) at m
    (drop_at bytes (replicate (512 * m) 0) at (omega arith))
blocks-more bytes at (suc k) m e =
    let here : suc k + m ≡ suc (k + m) = omega arith in
    let zs = replicate (512 * m) 0 in
    ap (λ n. blocks_from (bytes ++ zs) at n) here
    ∙ ap₂ ◌∷◌
    (ap (λ xs. take 512 xs) (drop-append-le at bytes zs (omega arith))
    ∙ take-append-le 512 (drop at bytes) zs (omega (arith, length-drop at bytes)))
    (blocks-more bytes (at + 512) k m (omega arith))

-- a write of a block within the bytes keeps their number
pub length-written : (bytes new : List ℕ) (place : ℕ) → place + 512 ≤ length bytes
    → length new ≡ 512 → length (put_mid place 512 bytes new) ≡ length bytes
length-written bytes new place within whole = omega (
  arith,
  length-append (take place bytes) (new ++ post_of place 512 bytes),
  length-append new (post_of place 512 bytes),
  length-take-le place bytes (omega arith),
  length-drop 512 (drop place bytes),
  length-drop place bytes,
)
