use Rattle.std.proofs.Common.{◌/◌, ◌%◌, ◌∙◌, arith, w64}
use Rattle.std.proofs.lemmas.List.{get_or_read}
use Rattle.std.proofs.lemmas.Nat.Bits.{bit_at_clear_same, bit_at_clear_other}
use Rattle.sg_pool.proofs.SlotSetLemmas.{bit-replaced, bits-apart}
use Rattle.sg_pool.proofs.bits.Bits.remove.Goals as goal

pub returns-clause-bit : goal.returns-clause-bit
returns-clause-bit c =
    bit-replaced c.args.self.now.words.items c.args.number _ c.requires
    ∙ bit_at_clear_same w64 c.index_mut.result.now (c.args.number % 64) (omega arith)

pub returns-clause-others : goal.returns-clause-others
returns-clause-others c = λ m other.
    let ws = c.args.self.now.words in
    let is = get_or_read ws.items (c.args.number / 64) c.index_mut.result.now c.requires
    c.index_mut.ensures.value 0 in
    bits-apart ws.items c.args.number _ c.index_mut.result.now m c.requires is
    (λ i lt apart. bit_at_clear_other w64 c.index_mut.result.now (c.args.number % 64) (omega arith)
    i lt apart)
    other
