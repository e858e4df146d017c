use Rattle.std.proofs.Common.{◌<◌, ◌≡◌, ◌+◌, ◌^◌, sym, ◌∙◌, w64, arith}
use Rattle.std.proofs.lemmas.List.{get_or_read}
use Rattle.std.proofs.lemmas.Nat.Bits.{bit_at-trailing_ones}
use Rattle.std.specs.Prelude.{slice_index}
use Rattle.sg_pool.proofs.SlotSetLemmas.{lowest-zero, lowest-below, below-full}
use Rattle.sg_pool.proofs.bits.Bits.lowest_zero.Goals as goal

pub returns-clause-zero : goal.returns-clause-zero
returns-clause-zero c =
    let ws = c.args.self.now.words.items in
    let w = c.index.result.now in
    let is : w ≡ slice_index ws c.args.word =
    get_or_read ws c.args.word w c.requires.within c.index.ensures 0 in
    let low : w + 1 < 2 ^ 64 = below-full w (λ e. c.requires.open (sym is ∙ e)) (omega arith) in
    let t = bit_at-trailing_ones w64 w low in
    let result = c.trailing_ones.ensures in
    lowest-zero ws c.args.word c.trailing_ones.result (rw result t.0)
    (rw (sym is) (rw result t.1))

pub returns-clause-lowest : goal.returns-clause-lowest
returns-clause-lowest c = λ other below.
    let ws = c.args.self.now.words.items in
    let w = c.index.result.now in
    let is : w ≡ slice_index ws c.args.word =
    get_or_read ws c.args.word w c.requires.within c.index.ensures 0 in
    let low : w + 1 < 2 ^ 64 = below-full w (λ e. c.requires.open (sym is ∙ e)) (omega arith) in
    let t = bit_at-trailing_ones w64 w low in
    let result = c.trailing_ones.ensures in
    lowest-below ws c.args.word c.trailing_ones.result other (rw result t.0) c.requires.before
    (rw (sym is) (rw result t.2)) below
