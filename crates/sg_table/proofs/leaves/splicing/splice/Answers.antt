use Rattle.std.proofs.Common.{◌∙◌, length, ap, arith}
use Rattle.sg_table.specs.Leaves.{LeafTable, joined}
use Rattle.sg_table.proofs.LeavesLemmas.{length-splice}
use Rattle.sg_table.proofs.PlaceLemmas.{edited-joined, replaced-located}
use Rattle.sg_table.proofs.leaves.splicing.splice.Goals as goal

pub balance-requires-clause-count : goal.balance-requires-clause-count
balance-requires-clause-count c =
    let ls = c.args.leaves.now.leaves in
    let same = ap (λ (t : LeafTable). t.leaves) c.locate-start.ensures.leaves in
    let place = c.locate-start.ensures.place in
    let edited = ap (λ (t : LeafTable). joined t.leaves) c.edit.ensures
    ∙ edited-joined c.locate-start.new.self.leaves c.locate-start.result c.locate_end-end.result
    c.args.runs.now
    (omega (arith, place.leaf, ap length same)) c.if-start-end.true
    ∙ replaced-located ls _ c.args.from c.args.to _ _ c.args.runs.now same place
    c.locate_end-end.ensures.place in
    omega (
      arith,
      ap length edited,
      length-splice (joined ls) c.args.from c.args.to c.args.runs.now c.requires.range.0 c.requires.range.1,
      c.requires.new_count,
    )

pub replace-requires-clause-room : goal.replace-requires-clause-room
replace-requires-clause-room c =
    let ls = c.args.leaves.now.leaves in
    let same = ap (λ (t : LeafTable). t.leaves) c.locate-start.ensures.leaves in
    let is = replaced-located ls _ c.args.from c.args.to _ _ c.args.runs.now same c.locate-start.ensures.place
    c.locate_end-end.ensures.place in
    omega (
      arith,
      ap length is,
      length-splice (joined ls) c.args.from c.args.to c.args.runs.now c.requires.range.0 c.requires.range.1,
      ap (λ (t : LeafTable). t.capacity) c.locate-start.ensures.leaves,
      c.requires.room,
    )

pub replace-requires-clause-new_count : goal.replace-requires-clause-new_count
replace-requires-clause-new_count c =
    let ls = c.args.leaves.now.leaves in
    let same = ap (λ (t : LeafTable). t.leaves) c.locate-start.ensures.leaves in
    let is = replaced-located ls _ c.args.from c.args.to _ _ c.args.runs.now same c.locate-start.ensures.place
    c.locate_end-end.ensures.place in
    omega (
      arith,
      ap length is,
      length-splice (joined ls) c.args.from c.args.to c.args.runs.now c.requires.range.0 c.requires.range.1,
      c.requires.new_count,
    )

pub returns-then-start-runs-le-MAX_LEAF-clause-records :
    goal.returns-then-start-runs-le-MAX_LEAF-clause-records
returns-then-start-runs-le-MAX_LEAF-clause-records c =
    let ls = c.args.leaves.now.leaves in
    let same = ap (λ (t : LeafTable). t.leaves) c.locate-start.ensures.leaves in
    let place = c.locate-start.ensures.place in
    c.balance.ensures.records ∙ ap (λ (t : LeafTable). joined t.leaves) c.edit.ensures
    ∙ edited-joined c.locate-start.new.self.leaves c.locate-start.result c.locate_end-end.result
    c.args.runs.now
    (omega (arith, place.leaf, ap length same)) c.if-start-end.true
    ∙ replaced-located ls _ c.args.from c.args.to _ _ c.args.runs.now same place
    c.locate_end-end.ensures.place

pub returns-else-start-end-clause-records : goal.returns-else-start-end-clause-records
returns-else-start-end-clause-records c =
    let same = ap (λ (t : LeafTable). t.leaves) c.locate-start.ensures.leaves in
    c.replace.ensures.records
    ∙ replaced-located c.args.leaves.now.leaves _ c.args.from c.args.to _ _ c.args.runs.now same
    c.locate-start.ensures.place c.locate_end-end.ensures.place
