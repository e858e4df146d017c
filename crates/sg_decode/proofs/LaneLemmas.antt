-- Look-ups in a table of sixteen lanes.
use Rattle.std.proofs.Common.{◌≡◌, ℕ, ◌+◌, ◌*◌, ◌/◌, ◌%◌, ◌^◌, ◌<◌, List, map, length, get_or}
use Rattle.std.proofs.Common.{replicate, bit_and, [], ◌∷◌, ap₂, refl, sym, ap, ◌∙◌, arith, w8, Fits}
use Rattle.std.specs.List.{range_with_len}
use Rattle.std.proofs.lemmas.List.{get_or-map, length-map, ext_get_or}
use Rattle.std.proofs.lemmas.Nat.{and_le_r, and_mask}
use Rattle.std.proofs.lemmas.Simd.{Each1-all, Each1-weaker, Each1-zip2, Each1-get_or, Each2-splat}
use Rattle.std.proofs.lemmas.Simd.{below_from_Fits, length-zip2, zip2_splat, pick_l_whole, swz_l}
use Rattle.std.proofs.lemmas.Simd.{SwzOk, SwzOk-from_below, length-swz_l, get_or-swz_l_below}
use Rattle.hex.specs.Hex.{lower_digits}
use Rattle.sg_decode.specs.HexPieces.{high_digit, low_digit}
use lib.Lanes.{zip2, Each1}

abbrev pub down : ℕ → ℕ → ℕ
down a b = a / 2 ^ b

abbrev pub IsSixteen : List ℕ → Type 0
IsSixteen v = (length v ≡ 16) × Each1 (Fits w8) v

pub high_ok : (v : List ℕ) → IsSixteen v → SwzOk w8 16 16 0 (zip2 down v (replicate 16 4))
high_ok v fits =
    let small =
    Each1-weaker (λ a. a < 256) (λ a. a / 16 < 16) (λ a h. omega arith) v
    (below_from_Fits w8 v fits.1) in
    SwzOk-from_below w8 16 1 16 0 (zip2 down v (replicate 16 4)) refl
    (omega (arith, length-zip2 down v (replicate 16 4) fits.0))
    (Each1-zip2 down (λ j. j < 16) v (replicate 16 4)
    (Each2-splat (λ a b. down a b < 16) v 16 4 small))

pub low_ok : (v : List ℕ) → IsSixteen v → SwzOk w8 16 16 0 (zip2 bit_and v (replicate 16 15))
low_ok v fits =
    let small = Each1-all (λ a. bit_and a 15 < 16) (λ a. omega (arith, and_le_r a 15)) v in
    SwzOk-from_below w8 16 1 16 0 (zip2 bit_and v (replicate 16 15)) refl
    (omega (arith, length-zip2 bit_and v (replicate 16 15) fits.0))
    (Each1-zip2 bit_and (λ j. j < 16) v (replicate 16 15)
    (Each2-splat (λ a b. bit_and a b < 16) v 16 15 small))

-- a table read at places g x below 16
looked_up : (s : List ℕ) (g : ℕ → ℕ) (v js : List ℕ) → IsSixteen v → js ≡ map g v
    → ((x : ℕ) → x < 256 → g x < 16) → swz_l w8 16 s 0 js ≡ map (λ x. get_or s (g x) 0) v
looked_up s g v js fits e small =
    let long : length js ≡ 16 = ap length e ∙ length-map v g ∙ fits.0 in
    ext_get_or 0 _ _ (length-swz_l w8 16 s 0 js ∙ long
    ∙ sym (length-map v (λ x. get_or s (g x) 0) ∙ fits.0)) (λ i h.
    let within : i < length v = omega (arith, fits.0, long, length-swz_l w8 16 s 0 js) in
    let is : get_or js i 0 ≡ g (get_or v i 0) =
    ap (λ l. get_or l i 0) e ∙ get_or-map g v i 0 0 within in
    let lane : get_or v i 0 < 256 = (Each1-get_or (Fits w8) v i 0 within fits.1).fits in
    let below : get_or js i 0 < 16 = omega (arith, is, small (get_or v i 0) lane) in
    let first : 16 * ((0 + i) / 16) + get_or js i 0 ≡ g (get_or v i 0) =
    omega (arith, is, within, fits.0) in
    get_or-swz_l_below w8 16 s 0 js i (omega (arith, within, long, fits.0)) below
    ∙ ap (λ k. get_or s k 0) first ∙ sym (get_or-map (λ x. get_or s (g x) 0) v i 0 0 within))

pub high_digits-are : (v : List ℕ) → IsSixteen v
    → swz_l w8 16 lower_digits 0 (zip2 down v (replicate 16 4)) ≡ map high_digit v
high_digits-are v fits =
    looked_up lower_digits (λ x. x / 16) v _ fits (zip2_splat down v 16 4 fits.0)
    (λ x h. omega arith)

masked : (v : List ℕ) → map (λ x. bit_and x 15) v ≡ map (λ x. x % 16) v
masked [] = refl
masked (x ∷ xs) = ap₂ (λ y ys. y ∷ ys) (and_mask x 4) (masked xs)

pub low_digits-are : (v : List ℕ) → IsSixteen v
    → swz_l w8 16 lower_digits 0 (zip2 bit_and v (replicate 16 15)) ≡ map low_digit v
low_digits-are v fits =
    looked_up lower_digits (λ x. x % 16) v _ fits (zip2_splat bit_and v 16 15 fits.0 ∙ masked v)
    (λ x h. omega arith)

-- sixteen lanes, written out
pub lanes-are : (v : List ℕ) → length v ≡ 16 → v ≡ map (λ k. get_or v k 0) (range_with_len 0 16)
lanes-are v long = sym (pick_l_whole 0 v 16 long)
