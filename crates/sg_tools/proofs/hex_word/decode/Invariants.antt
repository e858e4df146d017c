use Rattle.sg_tools.proofs.HexWordLemmas.{ReadsPairs}
use Rattle.sg_tools.proofs.hex_word.decode.Given as goal

abbrev pub invariant-loop-i : goal.invariant-loop-i
invariant-loop-i l = ReadsPairs l.are_digits l.digits l.bytes l.i
