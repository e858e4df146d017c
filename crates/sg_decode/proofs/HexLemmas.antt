-- Bytes as hexadecimal text: a line, and lines one after another.
use Rattle.std.proofs.Common.{◌≡◌, ◌<◌, ◌≤◌, ◌+◌, ◌-◌, ◌*◌, ◌/◌, ◌%◌, ◌^◌, ℕ, zero, suc, List, []}
use Rattle.std.proofs.Common.{◌∷◌, ◌++◌, length, take, drop, set, refl, sym, ap, ◌∙◌, arith}
use Rattle.std.proofs.Common.{add-zero, zero-add, append_assoc, append-nil, min, length-drop}
use Rattle.std.proofs.lemmas.List.{length-take-le, take-take, take_more_set, take-append-le}
use Rattle.std.proofs.lemmas.List.{length-append, length-set, drop-drop, drop-append-le}
use Rattle.std.proofs.lemmas.Grind.{common_steps, flat_map-append}
use Rattle.std.proofs.Math.Seq.{take-append-add, take-append_seam, take-set-lt}
use Rattle.std.proofs.lemmas.Slice.{take-put_mid}
use Rattle.std.proofs.lemmas.Simd.{length-put_chunk, put_chunk_whole}
use borrow.Rule.Slice.PartMut.{put_mid, post_of, same_len_mid}
use lib.Lanes.{put_chunk}
use Rattle.std.specs.List.{flat_map, range_with_len}
use Rattle.hex.specs.Hex.{encode_with}
use Rattle.sg_decode.specs.HexText.{hex_byte, hex_offset, hex_line, bytes_of_line, first_hex_lines}
use Rattle.sg_decode.specs.HexPieces.{first_hex_lines_from, hex_lines_from, line_head, high_digit}
use Rattle.sg_decode.specs.HexPieces.{low_digit}
use Rattle.sg_wire.specs.Printing.{Printing, Prints}
use Rattle.sg_wire.proofs.PrintingLemmas.{Prints-on}
use Rattle.sg_decode.proofs.TextLemmas.{hex_line-pieces}
use Rattle.std.specs.Prelude.{codes}

-- the first bytes of a text over which bytes are written further on
pub take-put_more : (a k m n : ℕ) (xs ys : List ℕ) → a ≤ length xs → m ≤ length ys → n ≡ a + m
    → take n (put_mid a k xs ys) ≡ take a xs ++ take m ys
take-put_more a k m n xs ys within some same =
    let front : length (take a xs) ≡ a = length-take-le a xs within in
    let count : n ≡ length (take a xs) + m = omega (arith, front) in
    rw (
      count,
      take-append-add (take a xs) (ys ++ post_of a k xs) m,
      take-append-le m ys
          (post_of a k xs) some,
    ) refl

-- a line is written, its offset and then its bytes
pub line-of : (k digit : ℕ) (bytes head before written text : List ℕ) → take 11 before ≡ head
    → 11 ≤ length before
    → take (3 * length bytes + 1) written ≡ text → 3 * length bytes + 1 ≤ length written
    → take (12 + 3 * length bytes) (put_mid 11 k (set before 8 digit) written) ≡ set head 8 digit
    ++ text
line-of k digit bytes head before written text first within tail room =
    let same : length (set before 8 digit) ≡ length before = length-set before 8 digit in
    let begins : take 11 (set before 8 digit) ≡ set head 8 digit =
    take-set-lt 11 before 8 digit (omega arith) ∙ ap (λ t. set t 8 digit) first in
    take-put_more 11 k (3 * length bytes + 1) (12 + 3 * length bytes) (set before 8 digit) written
    (omega (arith, same)) room (omega arith)
    ∙ rw (tail, begins) refl

-- the offsets of sixteen lines differ in one digit
offset-digit : (offset number : ℕ) → offset % 256 ≡ 0 → number < 16 → offset + 16 * number < 2 ^ 32
    → line_head (codes "  " ++ (hex_offset offset ++ codes " ")) number ≡ codes "  "
    ++ (hex_offset (offset + 16 * number) ++ codes " ")
unfolding encode_with
offset-digit offset number multiple few fits =
    let first : (offset + 16 * number) / 16777216 ≡ offset / 16777216 = omega arith in
    let second : (offset + 16 * number) / 65536 ≡ offset / 65536 = omega arith in
    let third : (offset + 16 * number) / 256 ≡ offset / 256 = omega arith in
    let high : (offset + 16 * number) % 256 / 16 ≡ number = omega arith in
    let low : (offset + 16 * number) % 256 % 16 ≡ offset % 256 % 16 = omega arith in
    rw (first, second, third, high, low) refl

pub line-is : (offset number : ℕ) (head bytes : List ℕ)
    → take 11 head ≡ codes "  " ++ (hex_offset offset ++ codes " ") → offset % 256 ≡ 0 → number < 16
    → offset + 16 * number < 2 ^ 32 → 0 < length bytes
    → line_head (take 11 head) number ++ (flat_map (λ byte. 32 ∷ hex_byte byte) bytes ++ codes "\n")
    ≡ hex_line (offset + 16 * number) bytes
line-is offset number head bytes first multiple few fits some =
    let rest : List ℕ = flat_map (λ byte. 32 ∷ hex_byte byte) bytes ++ codes "\n" in
    ap (λ t. line_head t number ++ rest) first
    ∙ ap (λ t. t ++ rest) (offset-digit offset number multiple few fits)
    ∙ sym (hex_line-pieces (offset + 16 * number) bytes some)

pub lanes-room : (n : ℕ) (text lanes : List ℕ) → n ≤ 60 → 60 ≤ length text
    → n ≤ length (put_chunk 0 (take 16 text) lanes ++ drop 16 text)
lanes-room n text lanes within room =
    omega (
      arith,
      length-append (put_chunk 0 (take 16 text) lanes) (drop 16 text),
      length-put_chunk
          0 (take 16 text) lanes,
      length-take-le 16 text (omega arith),
      length-drop 16 text,
    )

pub lanes-fit : (text : List ℕ) → 60 ≤ length text → 0 + 16 ≤ length (take 16 text)
lanes-fit text room = omega (arith, length-take-le 16 text (omega arith))

-- the first of sixteen lanes that are written over the first bytes of a text
pub lanes-front : (n : ℕ) (text lanes : List ℕ) → n ≤ 16 → 16 ≤ length text → length lanes ≡ 16
    → take n (put_chunk 0 (take 16 text) lanes ++ drop 16 text) ≡ take n lanes
lanes-front n text lanes within room long =
    let whole : put_chunk 0 (take 16 text) lanes ≡ lanes =
    put_chunk_whole (take 16 text) lanes (length-take-le 16 text room ∙ sym long) in
    rw whole (take-append-le n lanes (drop 16 text) (omega (arith, long)))

-- ---- lines

range_with_len-more : (first count : ℕ)
    → range_with_len first (count + 1) ≡ range_with_len first count ++ ((first + count) ∷ [])
range_with_len-more first zero = ap (λ k. k ∷ []) (sym (add-zero first))
range_with_len-more first (suc count) =
    let next : suc count + 1 ≡ suc (count + 1) = omega arith in
    let same : (first + 1) + count ≡ first + suc count = omega arith in
    rw (next, range_with_len-more (first + 1) count, same) refl

-- one more text
flat_map-range-more : (f : ℕ → List ℕ) (count : ℕ)
    → flat_map f (range_with_len 0 (count + 1)) ≡ flat_map f (range_with_len 0 count) ++ f count
flat_map-range-more f count =
    ap (flat_map f) (range_with_len-more 0 count)
    ∙ flat_map-append f (range_with_len 0 count) ((0 + count) ∷ [])
    ∙ ap (λ t. flat_map f (range_with_len 0 count) ++ t)
    (append-nil (f (0 + count)) ∙ ap f (zero-add count))

first_hex_lines-more : (bytes : List ℕ) (count : ℕ)
    → first_hex_lines (count + 1) bytes ≡ first_hex_lines count bytes
    ++ hex_line (16 * count % 2 ^ 32) (bytes_of_line bytes count)
unfolding first_hex_lines
first_hex_lines-more bytes count =
    flat_map-range-more (λ number. hex_line (16 * number % 2 ^ 32) (bytes_of_line bytes number))
    count

first_hex_lines_from-more : (offset : ℕ) (bytes : List ℕ) (count : ℕ)
    → first_hex_lines_from offset (count + 1) bytes ≡ first_hex_lines_from offset count bytes
    ++ hex_line (offset + 16 * count) (bytes_of_line bytes count)
unfolding first_hex_lines_from
first_hex_lines_from-more offset bytes count =
    flat_map-range-more (λ number. hex_line (offset + 16 * number) (bytes_of_line bytes number))
    count

-- a chunk of n bytes, or of all that is left
take-chunk : (n : ℕ) (chunk rest : List ℕ) → length chunk ≡ min n (length (chunk ++ rest))
    → take n (chunk ++ rest) ≡ chunk
take-chunk n chunk rest size = grind (arith, common_steps)

drop-chunk : (n : ℕ) (chunk rest : List ℕ) → length chunk ≡ min n (length (chunk ++ rest))
    → drop n (chunk ++ rest) ≡ rest
drop-chunk n chunk rest size = grind (arith, common_steps)

-- the next chunk is the bytes of the line
line-chunk : (bytes chunk rest : List ℕ) (count : ℕ) → drop (16 * count) bytes ≡ chunk ++ rest
    → length chunk ≡ min 16 (length (chunk ++ rest)) → bytes_of_line bytes count ≡ chunk
line-chunk bytes chunk rest count at most =
    let sixteen : 16 * count + 16 - 16 * count ≡ 16 = omega arith in
    rw (sixteen, at) (take-chunk 16 chunk rest most)

-- the bytes that are left after a chunk
left-chunk : (n count : ℕ) (bytes chunk rest : List ℕ) → drop (n * count) bytes ≡ chunk ++ rest
    → length chunk ≡ min n (length (chunk ++ rest)) → rest ≡ drop (n * (count + 1)) bytes
left-chunk n count bytes chunk rest at most =
    let further : n * (count + 1) ≡ n * count + n = grind arith in
    rw further (sym (sym (drop-drop n (n * count) bytes) ∙ ap (drop n) at
    ∙ drop-chunk n chunk rest most))

-- one more line is written, and the rest follows
pub next_line : (offset k : ℕ) (bytes chunk rest left text written : List ℕ)
    (count number after size len more : ℕ)
    → take len text ≡ first_hex_lines_from offset count bytes → len ≤ length text
    → left ≡ drop (16 * count) bytes → left ≡ chunk ++ rest → length chunk ≡ min size (length left)
    → size ≡ 16 → number ≡ count → after ≡ count + 1
    → take more written ≡ hex_line (offset + 16 * number) chunk → more ≤ length written
    → (take (len + more) (put_mid len k text written) ≡ first_hex_lines_from offset after bytes)
    × (rest ≡ drop (16 * after) bytes)
next_line offset k bytes chunk rest left text written count number after size len more before room
    whole parts long sixteen same next line some =
    let at : drop (16 * count) bytes ≡ chunk ++ rest = sym whole ∙ parts in
    let most : length chunk ≡ min 16 (length (chunk ++ rest)) = long ∙ rw (sixteen, parts) refl in (
      take-put_more len k more (len + more) text written room some refl
          ∙ rw (
            next,
            first_hex_lines_from-more offset bytes count,
            line-chunk bytes chunk rest
                count at most,
            before,
            line,
            same,
          ) refl,
      rw next (left-chunk 16 count bytes chunk rest at most),
    )

-- the first elements are all in the first list, or nothing follows it
take-before : (n : ℕ) (xs ys : List ℕ) → (0 < length ys → n ≤ length xs)
    → take n (xs ++ ys) ≡ take n xs
take-before n xs [] within = ap (take n) (append-nil xs)
take-before n xs (y ∷ ys) within = take-append-le n xs (y ∷ ys) (within (omega arith))

-- a line of sixteen lines' bytes is a line of all the bytes
line-of-chunk : (bytes part rest : List ℕ) (count k : ℕ) → drop (16 * count) bytes ≡ part ++ rest
    → length part ≡ min 256 (length (part ++ rest)) → 16 * k < length part
    → bytes_of_line bytes (count + k) ≡ bytes_of_line part k
line-of-chunk bytes part rest count k at most within =
    let sum : 16 * (count + k) ≡ 16 * count + 16 * k = omega arith in
    let sixteen : 16 * count + 16 * k + 16 - (16 * count + 16 * k) ≡ 16 = omega arith in
    let also : 16 * k + 16 - 16 * k ≡ 16 = omega arith in
    let long : 0 < length rest → 16 ≤ length (drop (16 * k) part) =
    λ some. omega (arith, most, some, length-append part rest, length-drop (16 * k) part) in
    rw (
      sum,
      sixteen,
      also,
      ← drop-drop (16 * k) (16 * count) bytes,
      at,
      drop-append-le (16 * k)
          part rest (omega arith),
    ) (take-before 16 (drop (16 * k) part) rest long)

no-line : (offset : ℕ) (bytes : List ℕ) → first_hex_lines_from offset 0 bytes ≡ []
unfolding first_hex_lines_from
no-line offset bytes = refl

-- the lines of a chunk, whose offset is a multiple of 256; within it the 32-bit offsets do not
-- begin again
lines-of-chunk : (bytes part rest : List ℕ) (count k : ℕ) → 16 * count % 256 ≡ 0
    → drop (16 * count) bytes ≡ part ++ rest → length part ≡ min 256 (length (part ++ rest))
    → 16 * k < length part + 16
    → first_hex_lines (count + k) bytes
    ≡ first_hex_lines count bytes ++ first_hex_lines_from (16 * count % 2 ^ 32) k part
lines-of-chunk bytes part rest count zero multiple at most within =
    rw (add-zero count, no-line (16 * count % 2 ^ 32) part)
    (sym (append-nil (first_hex_lines count bytes)))
lines-of-chunk bytes part rest count (suc k) multiple at most within =
    let next : count + suc k ≡ (count + k) + 1 = omega arith in
    let more : suc k ≡ k + 1 = omega arith in
    let few : k < 16 = omega (arith, most, within) in
    let sum : 16 * (count + k) % 2 ^ 32 ≡ 16 * count % 2 ^ 32 + 16 * k =
    omega (arith, multiple, few) in
    let before = lines-of-chunk bytes part rest count k multiple at most (omega arith) in
    let same = line-of-chunk bytes part rest count k at most (omega arith) in
    let offset = 16 * count % 2 ^ 32 in
    rw (
      next,
      more,
      first_hex_lines-more bytes (count + k),
      first_hex_lines_from-more offset part k,
      same,
      before,
      sum,
    )
    (append_assoc (first_hex_lines count bytes) (first_hex_lines_from offset k part)
    (hex_line (offset + 16 * k) (bytes_of_line part k)))

-- the number of lines in this many parts of 256 bytes, of `size` bytes in all
abbrev pub lines_of : ℕ → ℕ → ℕ
lines_of count size = min (16 * count) ((size + 15) / 16)

-- one more part is printed, and the rest follows
pub next_lines : (a b c : Printing) (bytes part rest left text : List ℕ)
    (count number after size : ℕ)
    → Prints a b (first_hex_lines (lines_of count (length bytes)) bytes) → Prints b c text
    → text ≡ hex_lines_from (256 * number % 2 ^ 32) part → left ≡ drop (256 * count) bytes
    → left ≡ part ++ rest → length part ≡ min size (length left) → 0 < length part → size ≡ 256
    → number ≡ count → after ≡ count + 1
    → Prints a c (first_hex_lines (lines_of after (length bytes)) bytes)
    × (rest ≡ drop (256 * after) bytes)
next_lines a b c bytes part rest left text count number after size p q lines whole parts long some
    same is next =
    let at : drop (256 * count) bytes ≡ part ++ rest = sym whole ∙ parts in
    let most : length part ≡ min 256 (length (part ++ rest)) = long ∙ rw (same, parts) refl in
    let n : ℕ = (length part + 15) / 16 in
    let size : length (part ++ rest) ≡ length bytes - 256 * count =
    ap length (sym at) ∙ length-drop (256 * count) bytes in
    let before : lines_of count (length bytes) ≡ 16 * count = omega (arith, most, some, size) in
    let behind : lines_of after (length bytes) ≡ 16 * count + n =
    omega (arith, most, some, size, next) in
    let also : 16 * (16 * count) ≡ 256 * count = omega arith in
    let multiple : 16 * (16 * count) % 256 ≡ 0 = omega arith in
    let front : drop (16 * (16 * count)) bytes ≡ part ++ rest = rw also at in
    let all = lines-of-chunk bytes part rest (16 * count) n multiple front most (omega arith) in
    let text_is : text ≡ first_hex_lines_from (16 * (16 * count) % 2 ^ 32) n part =
    lines ∙ rw (is, also) refl in (
      rw (behind, all, ← text_is) (Prints-on (rw before at p) q),
      rw next (left-chunk 256 count bytes part rest at most),
    )

-- ---- the bytes of a line

pub hex_byte-digits : (bytes : List ℕ)
    → flat_map (λ byte. 32 ∷ high_digit byte ∷ low_digit byte ∷ []) bytes
    ≡ flat_map (λ byte. 32 ∷ hex_byte byte) bytes
unfolding encode_with
hex_byte-digits bytes = refl

-- the first elements, each in a text of three bytes
take-threes : (f g : ℕ → ℕ) (n : ℕ) (xs : List ℕ)
    → take (3 * n) (flat_map (λ x. 32 ∷ f x ∷ g x ∷ []) xs)
    ≡ flat_map (λ x. 32 ∷ f x ∷ g x ∷ []) (take n xs)
take-threes f g zero xs = refl
take-threes f g (suc n) [] = grind (arith, common_steps)
take-threes f g (suc n) (x ∷ xs) =
    let three : 3 * suc n ≡ suc (suc (suc (3 * n))) = omega arith in
    rw three (ap (λ t. 32 ∷ f x ∷ g x ∷ t) (take-threes f g n xs))

-- lanes that are put over sixteen bytes of a text
put-lanes : (a : ℕ) (text lanes : List ℕ) → a + 16 ≤ length text → length lanes ≡ 16
    → put_chunk 0 (take 16 (drop a text)) lanes ≡ lanes
put-lanes a text lanes room long =
    let there : length (drop a text) ≡ length text - a = length-drop a text in
    put_chunk_whole (take 16 (drop a text)) lanes (length-take-le 16 (drop a text)
    (omega (arith, there)) ∙ sym long)

lanes-at : (a : ℕ) (text lanes : List ℕ) → a + 16 ≤ length text → length lanes ≡ 16
    → (take (a + 16) (put_mid a 16 text (put_chunk 0 (take 16 (drop a text)) lanes)) ≡ take a text
    ++ lanes) × (length (put_mid a 16 text (put_chunk 0 (take 16 (drop a text)) lanes))
    ≡ length text)
lanes-at a text lanes room long =
    let same = put-lanes a text lanes room long in
    let there : length (drop a text) ≡ length text - a = length-drop a text in
    let over : length lanes ≡ length (take 16 (drop a text)) =
    long ∙ sym (length-take-le 16 (drop a text) (omega (arith, there))) in (
      rw same (take-put_mid a 16 text lanes (a + 16) (omega (arith, long)) (omega arith)),
      rw same
          (same_len_mid a 16 text lanes over),
    )

-- three times sixteen lanes over the first bytes of a text, and an LF within or after them
pub lanes-written : (text first second third : List ℕ) (k : ℕ) → length first ≡ 16
    → length second ≡ 16 → length third ≡ 16 → 49 ≤ length text → k ≤ 48
    → let one = put_chunk 0 (take 16 text) first ++ drop 16 text in
    let two = put_mid 16 16 one (put_chunk 0 (take 16 (drop 16 one)) second) in
    take (k + 1) (set (put_mid 32 16 two (put_chunk 0 (take 16 (drop 32 two)) third)) k 10)
    ≡ take k (first ++ (second ++ third)) ++ 10 ∷ []
lanes-written text first second third k a b c room within =
    let one : List ℕ = put_chunk 0 (take 16 text) first ++ drop 16 text in
    let two : List ℕ = put_mid 16 16 one (put_chunk 0 (take 16 (drop 16 one)) second) in
    let three : List ℕ = put_mid 32 16 two (put_chunk 0 (take 16 (drop 32 two)) third) in
    let whole : put_chunk 0 (take 16 text) first ≡ first = put-lanes 0 text first (omega arith) a in
    let size : length one ≡ length text =
    rw (whole, length-append first (drop 16 text), length-drop 16 text) (omega (arith, a)) in
    let front : take 16 one ≡ first =
    rw (whole, ← a) (take-append_seam first (drop (length first) text)) in
    let next = lanes-at 16 one second (omega (arith, size)) b in
    let last = lanes-at 32 two third (omega (arith, size, next.1)) c in
    let all : take 48 three ≡ first ++ (second ++ third) =
    last.0 ∙ rw (next.0, front) (append_assoc first second third) in
    take_more_set three k 10 (omega (arith, size, next.1, last.1))
    ∙ ap (λ t. t ++ 10 ∷ []) (sym (take-take k 48 three within) ∙ ap (take k) all)

-- the digits of the first of sixteen bytes, each after a blank
pub digits-front : (bytes padded lanes : List ℕ)
    → lanes ≡ flat_map (λ byte. 32 ∷ high_digit byte ∷ low_digit byte ∷ []) padded
    → take (length bytes) padded ≡ bytes
    → take (3 * length bytes) lanes ≡ flat_map (λ byte. 32 ∷ hex_byte byte) bytes
digits-front bytes padded lanes same front =
    rw (same, take-threes high_digit low_digit (length bytes) padded, front) (hex_byte-digits bytes)
