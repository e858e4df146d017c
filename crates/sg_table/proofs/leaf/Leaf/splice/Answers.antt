use Rattle.std.proofs.Common.{◌≡◌, ◌+◌, ◌-◌, ◌++◌, length, take, drop, ap, ◌∙◌, sym, arith}
use Rattle.std.proofs.Common.{length-append, length-drop}
use Rattle.std.specs.List.{splice}
use Rattle.sg_table.proofs.SpliceLemmas.{on_success, written_back, cut-left, turned-right, front_of}
use Rattle.sg_table.proofs.leaf.Leaf.splice.Goals as goal

pub returns : goal.returns
returns c =
    let rs = c.self.inside.records.items in
    let same : rs ≡ c.args.self.now = c.self.view_is in
    let from = c.args.from in
    let to = c.args.to in
    let runs = c.args.runs.now in
    let w = c.try_extend_from_slice-extended.new.self in
    let len : length rs ≡ length c.args.self.now = ap length same in
    let left = rw c.as_mut_slice.ensures.value at c.rotate_left.ensures in
    let lp : length (take from rs) ≡ from = front_of rs from (omega arith) in
    let lb : length (drop to rs) ≡ length rs - to = length-drop to rs in
    let back = written_back (length rs) c.rotate_left.new.records _
    (omega (arith, c.rotate_left.auto.records, ap length c.as_mut_slice.ensures.value)) in
    let cut : c.truncate.new.self.items ≡ take from rs ++ drop to rs
    = c.truncate.ensures.items ∙ ap (take (c.len.result - (to - from))) (back ∙ left)
    ∙ cut-left rs from to (c.len.result - (to - from)) (omega arith) (omega arith)
    (omega (arith, c.len.ensures.value)) in
    let ok = c.if-prove.false in
    let ext : w.items ≡ (take from rs ++ drop to rs) ++ runs =
    rw cut at (on_success _ (sym c.is_ok.ensures.value ∙ ok) c.try_extend_from_slice-extended.ensures.ok) in
    let whole : length w.items ≡ from + (length rs - to) + length runs =
    omega (
      arith,
      ap length ext,
      length-append (take from rs ++ drop to rs) runs,
      length-append (take from rs) (drop to rs),
    ) in
    let right = rw (c.as_mut_slice-2.ensures.value, ext) at c.rotate_right.ensures in
    written_back _ _ _
    (omega (arith, c.rotate_right.auto.records, ap length c.as_mut_slice-2.ensures.value)) ∙ right
    ∙ turned-right (take from rs) (drop to rs) runs from _ _ (sym lp)
    (omega (arith, ap length ext, whole)) (omega (arith, ap length ext, whole))
    ∙ ap (λ xs. splice xs from to runs) same
