use Rattle.std.proofs.Common.{◌+◌, ap, arith}
use Rattle.sg_table.specs.Leaves.{LeafTable, IsSpan, count_before}
use Rattle.sg_table.proofs.PlaceLemmas.{place-span, length-span}
use Rattle.sg_table.proofs.leaves.Leaves.locate.Goals as goal

-- the leaf that was found last
pub returns-then-index-recent-clause-place : goal.returns-then-index-recent-clause-place
returns-then-index-recent-clause-place c =
    let ls = c.args.self.now.leaves in
    let recent = c.self.inside.recent in
    let same = ap (λ (l : LeafTable). l.leaves) c.self.view_is in
    let span : IsSpan ls recent = rw same at c.self.invariant.7 (omega arith) in
    rw c.place.ensures (place-span ls recent c.args.index span (omega arith) (omega arith))

pub returns-then-index-recent-clause-within : goal.returns-then-index-recent-clause-within
returns-then-index-recent-clause-within c = λ lt.
    let ls = c.args.self.now.leaves in
    let recent = c.self.inside.recent in
    let same = ap (λ (l : LeafTable). l.leaves) c.self.view_is in
    let span : IsSpan ls recent = rw same at c.self.invariant.7 (omega arith) in
    rw c.place.ensures (omega (arith, length-span ls recent span))

-- another leaf
pub returns-clause-place : goal.returns-clause-place
returns-clause-place c =
    let ls = c.args.self.now.leaves in
    let found = c.enter.ensures in
    let leaf = c.leaf_of-leaf.ensures in
    rw c.place-2.ensures (place-span ls c.enter.result c.args.index found.span
    (omega (arith, found.span.start, leaf.start, ap (count_before ls) found.leaf))
    (omega (arith, found.span.end, leaf.end, ap (λ k. count_before ls (k + 1)) found.leaf)))

pub returns-clause-within : goal.returns-clause-within
returns-clause-within c = λ lt.
    let ls = c.args.self.now.leaves in
    let found = c.enter.ensures in
    let leaf = c.leaf_of-leaf.ensures in
    let end = leaf.record_end lt in
    rw c.place-2.ensures (omega (
      arith,
      length-span ls c.enter.result found.span,
      found.span.start,
      found.span.end,
      leaf.start,
      ap (count_before ls) found.leaf,
      ap (λ k. count_before ls (k + 1)) found.leaf,
    ))
