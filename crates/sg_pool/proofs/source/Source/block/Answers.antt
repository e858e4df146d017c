use Rattle.std.proofs.Common.{◌≡◌, ◌+◌, ◌-◌, ◌*◌, length, take, drop, ap, sym, ◌∙◌, arith}
use Rattle.sg_store.specs.Disk.{block_at}
use Rattle.sg_pool.specs.Source.{block_of}
use Rattle.sg_pool.proofs.SourceLemmas.{block-within}
use Rattle.sg_pool.proofs.source.Source.block.Goals as goal

pub slice_bounds-result-end : goal.slice_bounds-result-end
slice_bounds-result-end c =
    let whole : length (block_at c.in-Joined.bytes.now c.args.index) ≡ 512 =
    ap (λ s. length (block_of s c.args.index)) (sym c.in-Joined.is) ∙ c.requires in
    let within = block-within c.in-Joined.bytes.now c.args.index whole in
    omega (arith, within)

pub returns-in-Joined : goal.returns-in-Joined
returns-in-Joined c =
    let size : 512 * c.args.index + 512 - 512 * c.args.index ≡ 512 = omega arith in
    ap (λ n. take n (drop (512 * c.args.index) c.in-Joined.bytes.now)) size
    ∙ ap (λ s. block_of s c.args.index) (sym c.in-Joined.is)
