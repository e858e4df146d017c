use Rattle.std.proofs.Common.{◌∙◌, ◌++◌, ◌∷◌, [], ap, arith}
use Rattle.sg_decode.proofs.HexLemmas.{lanes-written, digits-front}
use Rattle.sg_decode.proofs.hex_lines.write_bytes.Goals as goal

pub returns : goal.returns
returns c =
    let long = c.spaced_digits.ensures.lengths in
    lanes-written c.args.text.now _ _ _ _ long.0 long.1 long.2 c.requires.room
    (omega (arith, c.requires.at_most_16))
    ∙ ap (λ t. t ++ 10 ∷ []) (digits-front _ _ _ c.spaced_digits.ensures.digits
    c.padded.ensures.bytes)
