-- The whole descriptors of GET LBA STATUS parameter data.
use Rattle.std.proofs.Common.{◌≡◌, ℕ, ◌+◌, List, [], ◌∷◌, ◌++◌, map, Option, Some, None, option_and_then}
use Rattle.std.proofs.Common.{arith, refl, ap, ◌∙◌}
use Rattle.std.specs.List.{last_or, range_with_len}
use Rattle.std.proofs.lemmas.List.FromFn.{map-range_with_len_more}
use Rattle.sg_decode.specs.LbaStatus.{address_after, descriptor, next_start, whole_count}

last_or-push : {A : Type 0} (o : Option A) (xs : List A) (x : A) → last_or o (xs ++ x ∷ []) ≡ Some x
last_or-push o [] x = refl
last_or-push o (y ∷ xs) x = last_or-push (Some y) xs x

-- the last of them
pub next-is : (bytes : List ℕ) (k : ℕ) → whole_count bytes ≡ k + 1
    → next_start bytes ≡ address_after (descriptor bytes k)
next-is bytes k count =
    let whole = descriptor bytes in
    ap (λ n. option_and_then address_after (last_or None (map whole (range_with_len 0 n)))) count
    ∙ ap (λ ds. option_and_then address_after (last_or None ds))
    (map-range_with_len_more whole 0 k k (omega arith))
    ∙ ap (option_and_then address_after) (last_or-push None (map whole (range_with_len 0 k)) (whole k))
