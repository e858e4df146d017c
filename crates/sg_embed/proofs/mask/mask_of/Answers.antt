use Rattle.std.proofs.Common.{◌≡◌, ◌+◌, ◌*◌, ◌-◌, suc, sym, subst, arith}
use Rattle.sg_embed.proofs.MaskLemmas.{HasBits, bit, each-bit, next-bit}
use Rattle.sg_embed.proofs.mask.mask_of.Goals as goal

pub loop-number-preserved : goal.loop-number-preserved
loop-number-preserved c =
    let members = c.args.initiators.now in
    let mask = c.loop-number.mask in
    let next = c.loop-number.number - 1 in
    let before : HasBits members (suc next) mask =
    subst (λ n. HasBits members n mask) (omega (arith, c.loop-number-test.true)) c.loop-number.invariant in
    let digit : c.from.result ≡ bit c.is_member.result = c.from.ensures in
    subst (λ d. HasBits members next (2 * mask + d)) (sym digit)
    (next-bit members next mask c.is_member.result
    (omega (arith, c.loop-number.invariant.within, c.loop-number-test.true)) c.is_member.ensures before)

pub returns : goal.returns
returns c =
    let members = c.args.initiators.now in
    each-bit members c.loop-number.mask c.requires
    (subst (λ n. HasBits members n c.loop-number.mask) (omega (arith, c.loop-number-test.false))
    c.loop-number.invariant)
