use Rattle.std.proofs.Common.{◌≡◌, ◌+◌, ◌-◌, ◌*◌, ℕ, List, take, drop, ap, ap₂, arith}
use Rattle.sg_target.specs.BlockCommands.{BlocksOutFields}
use Rattle.sg_target.proofs.block.BlocksOut.block.Goals as goal

pub returns-clause-bytes : goal.returns-clause-bytes
returns-clause-bytes c =
    let at = 512 * c.args.index in
    let long : at + 512 - at ≡ 512 = omega arith in
    let bytes = ap (λ (b : BlocksOutFields). b.bytes) c.self.view_is in
    ap₂ (λ (n : ℕ) (bytes : List ℕ). take n (drop at bytes)) long bytes
