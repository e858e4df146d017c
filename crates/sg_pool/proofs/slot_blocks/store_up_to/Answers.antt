use Rattle.std.proofs.Common.{◌≡◌, ◌+◌, ◌-◌, ◌*◌, ◌++◌, length, replicate, take, ap, ap₂, ◌∙◌, arith}
use Rattle.std.proofs.lemmas.List.{take-append-le}
use Rattle.sg_pool.specs.Slots.{blocks_from}
use Rattle.sg_pool.proofs.SlotBytesLemmas.{blocks-more}
use Rattle.sg_pool.proofs.slot_blocks.store_up_to.Goals as goal

pub returns-clause-blocks : goal.returns-clause-blocks
returns-clause-blocks c =
    let old = c.args.bytes.now.items in
    let stored = c.args.stored in
    let m = c.args.slot + 1 - stored in
    let size : c.place.result - length old ≡ 512 * m =
    omega (arith, c.requires.length, c.place.ensures, c.if-slot-stored.false) in
    let all : c.args.slot + 1 ≡ stored + m = omega (arith, c.if-slot-stored.false) in
    ap₂ (λ xs n. blocks_from xs 496 n)
    (c.extend_to.ensures.bytes ∙ ap (λ k. old ++ replicate k 0) size) all
    ∙ blocks-more old 496 stored m c.requires.length

pub returns-clause-head : goal.returns-clause-head
returns-clause-head c =
    ap (λ xs. take 496 xs) c.extend_to.ensures.bytes
    ∙ take-append-le 496 c.args.bytes.now.items _ (omega (arith, c.requires.length))
