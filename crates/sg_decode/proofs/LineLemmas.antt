-- The parts of a line.
use Rattle.std.proofs.Common.{◌≡◌, ◌≤◌, ◌<◌, ℕ, zero, suc, List, [], ◌∷◌, length, take, get_or}
use Rattle.std.proofs.Common.{true, arith, sym}
use Rattle.std.specs.List.{flat_map}
use Rattle.std.proofs.lemmas.Bool.{and_parts}
use Rattle.std.proofs.lemmas.List.Folds.{flat_map-map}
use Rattle.std.proofs.lemmas.List.{take_all}
use Rattle.sg_wire.specs.Printing.{Printing, Prints}
use Rattle.sg_decode.specs.Values.{is_sound, value_end}
use Rattle.sg_decode.specs.Lines.{line_of, lines_of, part_of, part_text, line_end, is_sound_line}
use Rattle.sg_decode.specs.Lines.{are_sound}
use Rattle.std.specs.Borrow.{Bor}
use Rattle.sg_decode.specs.declared.value.Field.{Field}

-- each value of a sound line is sound
pub sound_at : (fields : List Field) (i : ℕ) (d : Field) → i < length fields
    → is_sound_line (line_of fields) ≡ true → is_sound (get_or fields i d).1 ≡ true
sound_at [] i d within sound = absurd (omega arith)
sound_at (x ∷ xs) zero d within sound =
    (and_parts (is_sound x.1) (is_sound_line (line_of xs)) sound).0
sound_at (x ∷ xs) (suc i) d within sound =
    sound_at xs i d (omega arith) (and_parts (is_sound x.1) (is_sound_line (line_of xs)) sound).1

-- and ends within the line
pub end_at : (fields : List Field) (i : ℕ) (d : Field) (n : ℕ) → i < length fields
    → line_end (line_of fields) ≤ n → value_end (get_or fields i d).1 ≤ n
end_at [] i d n within all = absurd (omega arith)
end_at (x ∷ xs) zero d n within all = omega arith
end_at (x ∷ xs) (suc i) d n within all = end_at xs i d n (omega arith) (omega arith)

-- all parts together are the line
pub parts_joined : (bytes : List ℕ) (fields : List Field)
    → flat_map (λ f. part_text bytes (part_of f)) fields
    ≡ flat_map (part_text bytes) (line_of fields)
parts_joined bytes fields = sym (flat_map-map (part_text bytes) part_of fields)

pub all_parts : (a b : Printing) (bytes : List ℕ) (fields : List Field) (i : ℕ) → length fields ≤ i
    → Prints a b (flat_map (λ f. part_text bytes (part_of f)) (take i fields))
    → Prints a b (flat_map (part_text bytes) (line_of fields))
all_parts a b bytes fields i past p =
    rw (← parts_joined bytes fields) (rw take_all at p)

-- each line of a sound table is sound
pub line_sound_at : (lines : List (Bor (List Field))) (i : ℕ) (d : Bor (List Field))
    → i < length lines → are_sound (lines_of lines) ≡ true
    → is_sound_line (line_of (get_or lines i d).now) ≡ true
line_sound_at [] i d within sound = absurd (omega arith)
line_sound_at (x ∷ xs) zero d within sound =
    (and_parts (is_sound_line (line_of x.now)) (are_sound (lines_of xs)) sound).0
line_sound_at (x ∷ xs) (suc i) d within sound =
    line_sound_at xs i d (omega arith)
    (and_parts (is_sound_line (line_of x.now)) (are_sound (lines_of xs)) sound).1
