-- Texts that go on.
use Rattle.std.proofs.Common.{◌≡◌, ◌/◌, ◌%◌, ◌<◌, ◌+◌, ℕ, List, [], ◌∷◌, ◌++◌, length, take, get_or}
use Rattle.std.proofs.Common.{slice_index, map, arith, refl, ap, sym, ◌∙◌, append_assoc, append-nil}
use Rattle.std.specs.List.{flat_map, join_with_byte}
use Rattle.std.specs.Prelude.{codes}
use Rattle.std.proofs.lemmas.List.{take_more, map_more}
use Rattle.hex.specs.Hex.{encode_with, encode_lower, lower_digits}
use Rattle.sg_wire.specs.Printing.{Printing, Prints}
use Rattle.sg_wire.proofs.PrintingLemmas.{Prints-on, Prints-nil, Prints-flat_map}
use Rattle.sg_decode.specs.HexText.{hex_byte, hex_offset, hex_line}

pub ruleset prints = (Prints-on, Prints-nil, Prints-flat_map)

-- ---- a line of hexadecimal

-- a blank between the texts, and one before them
blank-join : (f : ℕ → List ℕ) (x : ℕ) (xs : List ℕ)
    → 32 ∷ join_with_byte 32 (map f (x ∷ xs)) ≡ flat_map (λ y. 32 ∷ f y) (x ∷ xs)
blank-join f x [] = ap (λ t. 32 ∷ t) (sym (append-nil (f x)))
blank-join f x (y ∷ ys) = ap (λ t. 32 ∷ (f x ++ t)) (blank-join f y ys)

-- a line in the pieces that the code writes
pub hex_line-pieces : (offset : ℕ) (bytes : List ℕ) → 0 < length bytes
    → hex_line offset bytes ≡ (codes "  " ++ (hex_offset offset ++ codes " "))
    ++ (flat_map (λ byte. 32 ∷ hex_byte byte) bytes ++ codes "\n")
unfolding hex_line
hex_line-pieces offset [] some = absurd (omega arith)
hex_line-pieces offset (x ∷ xs) some =
    let words = flat_map (λ byte. 32 ∷ hex_byte byte) (x ∷ xs) in
    let head = hex_offset offset in
    ap (λ t. 32 ∷ 32 ∷ (head ++ (32 ∷ (t ++ 10 ∷ [])))) (blank-join hex_byte x xs)
    ∙ ap (λ t. 32 ∷ 32 ∷ t) (sym (append_assoc head (32 ∷ []) (words ++ 10 ∷ [])))

-- ---- one more byte

-- a byte of a text
pub Prints-map : (f : ℕ → ℕ) (a b c : Printing) (xs : List ℕ) (i d x : ℕ) → i < length xs
    → Prints a b (map f (take i xs)) → x ≡ f (get_or xs i d) → Prints b c (x ∷ [])
    → Prints a c (map f (take (i + 1) xs))
Prints-map f a b c xs i d x within p same q = rw (map_more f xs i d within, ← same) (Prints-on p q)

encode_with-append : (t xs ys : List ℕ)
    → encode_with t (xs ++ ys) ≡ encode_with t xs ++ encode_with t ys
unfolding encode_with
encode_with-append t [] ys = refl
encode_with-append t (x ∷ xs) ys =
    ap (λ r. slice_index t (x / 16) ∷ slice_index t (x % 16) ∷ r) (encode_with-append t xs ys)

-- the two digits of a byte
pub Prints-hex : (a b c : Printing) (xs digits : List ℕ) (i d : ℕ) → i < length xs
    → Prints a b (encode_lower (take i xs)) → digits ≡ encode_lower (get_or xs i d ∷ [])
    → Prints b c digits → Prints a c (encode_lower (take (i + 1) xs))
Prints-hex a b c xs digits i d within p same q =
    let split = encode_with-append lower_digits (take i xs) (get_or xs i d ∷ []) in
    rw (take_more xs i d within, split, ← same) (Prints-on p q)
