-- Bytes at whose front no batch counts, as a reader meets them.
use Rattle.std.proofs.Common.{◌≡◌, ℕ, ◌+◌, ◌≤◌, ◌<◌, false, List, ◌++◌, length, take, sym, ◌∙◌, ap}
use Rattle.std.proofs.Common.{arith, append_assoc, length-append}
use Rattle.std.proofs.lemmas.List.{drop_at, take_at}
use Rattle.byteorder.specs.Endian.{big_number}
use Rattle.byteorder.specs.Numbers.{big_from-append}
use Rattle.sg_journal.specs.Layout.{counts, length_in, body_size, max_batch}
use Rattle.sg_journal.proofs.Fields.{refuted, body_some}

pub length_read : (sector : ℕ) (g bytes rest : List ℕ) → length g ≡ sector → 8 ≤ length bytes
    → length_in sector (g ++ (bytes ++ rest)) ≡ big_number 8 bytes
unfolding length_in
length_read sector g bytes rest size long =
    ap (big_number 8) (drop_at g (bytes ++ rest) sector size) ∙ big_from-append 8 bytes rest long

-- not even one sector of a body
pub no_body : (sector : ℕ) (bytes : List ℕ) → 0 < sector → length bytes < sector + sector
    → counts sector bytes ≡ false
no_body sector bytes some short =
    refuted sector bytes
    (λ c. let least = body_some sector (length_in sector bytes) some in
    omega (arith, c.whole, least))

pub too_long : (sector : ℕ) (g bytes rest : List ℕ) → length g ≡ sector → 8 ≤ length bytes
    → max_batch < big_number 8 bytes → counts sector (g ++ (bytes ++ rest)) ≡ false
too_long sector g bytes rest size long over =
    refuted sector (g ++ (bytes ++ rest))
    (λ c. let e = length_read sector g bytes rest size long in omega (arith, c.within, e, over))

pub cut_short : (sector : ℕ) (g bytes rest : List ℕ) → length g ≡ sector → 8 ≤ length bytes
    → length bytes + length rest < body_size sector (big_number 8 bytes)
    → counts sector (g ++ (bytes ++ rest)) ≡ false
cut_short sector g bytes rest size long short =
    refuted sector (g ++ (bytes ++ rest)) (λ c.
    let e = ap (body_size sector) (length_read sector g bytes rest size long) in
    omega (
      arith,
      c.whole,
      e,
      short,
      length-append g (bytes ++ rest),
      length-append bytes rest,
      size,
    ))

-- ---- Two reads in a row

pub front_two : (a b c : List ℕ) (n : ℕ) → length a + length b ≡ n → take n (a ++ (b ++ c)) ≡ a ++ b
front_two a b c n size =
    ap (take n) (sym (append_assoc a b c)) ∙ take_at (a ++ b) c n (length-append a b ∙ size)
