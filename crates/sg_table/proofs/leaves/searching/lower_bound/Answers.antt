use Rattle.std.proofs.Common.{◌∙◌, sym, ap, arith}
use Rattle.sg_table.specs.Leaves.{count_before}
use Rattle.sg_table.proofs.HalvingLemmas.{probes-le}
use Rattle.sg_table.proofs.LeafSearchLemmas.{firsts-rising, leaf-bound, leaf-cost}
use Rattle.sg_table.proofs.LeafSearchLemmas.{leaf-rising}
use Rattle.sg_table.proofs.leaves.searching.lower_bound.Goals as goal

pub search-leaf-requires-clause-rising : goal.search-leaf-requires-clause-rising
search-leaf-requires-clause-rising c =
    let r = c.requires in
    let f = c.other_firsts-firsts.ensures in
    rw f.starts (firsts-rising c.args.leaves.now.leaves r.sorted r.balanced f.not_empty)

pub search-offset-requires-clause-rising : goal.search-offset-requires-clause-rising
search-offset-requires-clause-rising c =
    let r = c.requires in
    let f = c.other_firsts-firsts.ensures in
    rw c.probed-records.ensures.starts (leaf-rising c.args.leaves.now.leaves r.sorted r.balanced f.not_empty
    c.search-leaf.result c.args.address (rw f.starts at c.search-leaf.ensures.index))

pub overflow_add-probes : goal.overflow_add-probes
overflow_add-probes c =
    let r = c.requires in
    let f = c.other_firsts-firsts.ensures in
    let cost = leaf-cost c.args.leaves.now.leaves r.sorted r.balanced f.not_empty c.search-leaf.result
    c.probes.result c.probes-2.result c.args.address (rw f.starts at c.search-leaf.ensures.index) f.fits
    (rw (f.starts, sym c.probes.ensures) at c.search-leaf.ensures.halving)
    (rw (c.probed-records.ensures.starts, sym c.probes-2.ensures) at c.search-offset.ensures.halving) in
    omega (arith, probes-le _ _ cost.most_probes r.count)

pub overflow_add-result : goal.overflow_add-result
overflow_add-result c =
    let r = c.requires in
    let f = c.other_firsts-firsts.ensures in
    let ls = c.args.leaves.now.leaves in
    let bound = leaf-bound ls r.sorted r.balanced f.not_empty c.search-leaf.result c.search-offset.result
    c.args.address (rw f.starts at c.search-leaf.ensures.index)
    (rw c.probed-records.ensures.starts at c.search-offset.ensures.index) in
    let within = bound.within in
    omega (arith, c.enter-span.ensures.span.start, ap (count_before ls) c.enter-span.ensures.leaf, r.count)

pub returns-clause-index : goal.returns-clause-index
returns-clause-index c =
    let r = c.requires in
    let f = c.other_firsts-firsts.ensures in
    let ls = c.args.leaves.now.leaves in
    rw (c.enter-span.ensures.span.start ∙ ap (count_before ls) c.enter-span.ensures.leaf)
    (leaf-bound ls r.sorted r.balanced f.not_empty c.search-leaf.result c.search-offset.result c.args.address
    (rw f.starts at c.search-leaf.ensures.index)
    (rw c.probed-records.ensures.starts at c.search-offset.ensures.index))

pub returns-clause-search : goal.returns-clause-search
returns-clause-search c =
    let r = c.requires in
    let f = c.other_firsts-firsts.ensures in
    rw (c.probes.ensures, c.probes-2.ensures)
    (leaf-cost c.args.leaves.now.leaves r.sorted r.balanced f.not_empty c.search-leaf.result _ _
    c.args.address
    (rw f.starts at c.search-leaf.ensures.index) f.fits (rw f.starts at c.search-leaf.ensures.halving)
    (rw c.probed-records.ensures.starts at c.search-offset.ensures.halving))
