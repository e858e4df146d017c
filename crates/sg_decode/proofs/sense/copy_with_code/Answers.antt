use Rattle.std.proofs.Common.{◌≡◌, ◌+◌, ℕ, List, [], ◌∷◌, length, take, min, slice_set, arith, ap, ◌∙◌}
use Rattle.std.proofs.lemmas.List.{length-take, take_min}
use Rattle.std.proofs.lemmas.Slice.{take-put_mid}
use borrow.Rule.Slice.PartMut.{put_mid}
use Rattle.sg_decode.proofs.sense.copy_with_code.Goals as goal

-- as many bytes as there is room for
first-bytes : (n : ℕ) (rest : List ℕ) → n ≡ min (length rest) 251 → take n rest ≡ take 251 rest
first-bytes n rest same =
    let flipped : n ≡ min 251 (length rest) = omega (arith, same) in
    ap (λ m. take m rest) flipped ∙ take_min 251 rest

after-code : (code n k : ℕ) (copy rest bytes : List ℕ) → length copy ≡ 252
    → n ≡ min (length rest) 251 → bytes ≡ take n rest
    → take (n + 1) (put_mid 1 k (slice_set copy 0 code) bytes) ≡ code ∷ take 251 rest
after-code code n k [] rest bytes room same are = absurd (omega arith)
after-code code n k (x ∷ xs) rest bytes room same are =
    let long : length (take n rest) ≡ n = omega (arith, same, length-take n rest) in
    let whole : n + 1 ≡ 1 + length bytes = rw are (omega (arith, long)) in
    take-put_mid 1 k (code ∷ xs) bytes (n + 1) whole (omega arith)
    ∙ ap (λ t. code ∷ t) (are ∙ first-bytes n rest same)

pub returns-clause-bytes : goal.returns-clause-bytes
returns-clause-bytes c =
    after-code c.args.code c.min-count.result _ c.args.copy.now c.args.rest.now _ c.requires
    c.min-count.ensures c.copy_from_slice.ensures.after
