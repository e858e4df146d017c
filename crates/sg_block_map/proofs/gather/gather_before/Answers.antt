use Rattle.std.proofs.Common.{◌-◌, ap, sym, ◌∙◌, arith, refl}
use Rattle.sg_table.specs.Draft.{Drafted}
use Rattle.sg_table.proofs.RecordLemmas.{start_of-read}
use Rattle.sg_block_map.proofs.GatheringLemmas.{begun-none, begun-one, end_at-read}
use Rattle.sg_block_map.proofs.gather.gather_before.Goals as goal

pub overflow_sub-low : goal.overflow_sub-low
overflow_sub-low c =
    let rs = c.args.table.now.records in
    let at = c.args.index - 1 in
    let within = c.requires.index.within in
    let start = start_of-read rs at c.visit-run.result (omega (arith, c.if-index-eq0.false))
    (sym c.visit-run.ensures.value) in
    let before = c.requires.index.before at (omega (arith, c.if-index-eq0.false)) in
    omega arith

pub returns-then-low-run-clause-gathered : goal.returns-then-low-run-clause-gathered
returns-then-low-run-clause-gathered c =
    let rs = c.args.table.now.records in
    let at = c.args.index - 1 in
    let within = c.requires.index.within in
    let start = start_of-read rs at c.visit-run.result (omega (arith, c.if-index-eq0.false))
    (sym c.visit-run.ensures.value) in
    let before = c.requires.index.before at (omega (arith, c.if-index-eq0.false)) in
    let from = ap (λ (d : Drafted). d.from) c.begin-then-low-run.ensures in
    let none = ap (λ (d : Drafted). d.records) c.begin-then-low-run.ensures in
    begun-one rs c.push.new.self c.visit-run.result c.args.index c.args.low
    (omega (arith, c.if-index-eq0.false)) within
    (ap (λ (d : Drafted). d.from) c.push.ensures
    ∙ from) (ap (λ (d : Drafted). d.records) c.push.ensures
    ∙ rw none refl) (sym c.visit-run.ensures.value)
    (omega (arith, c.if-low-run.true, c.from.ensures))

pub returns-else-low-run-clause-gathered : goal.returns-else-low-run-clause-gathered
returns-else-low-run-clause-gathered c =
    let rs = c.args.table.now.records in
    let at = c.args.index - 1 in
    let within = c.requires.index.within in
    let start = start_of-read rs at c.visit-run.result (omega (arith, c.if-index-eq0.false))
    (sym c.visit-run.ensures.value) in
    let ends = end_at-read rs at c.visit-run.result (omega (arith, c.if-index-eq0.false))
    (sym c.visit-run.ensures.value) in
    let before = c.requires.index.before at (omega (arith, c.if-index-eq0.false)) in
    begun-none rs c.begin.new.self c.args.index c.args.low
    (ap (λ (d : Drafted). d.from) c.begin.ensures)
    (ap (λ (d : Drafted). d.records) c.begin.ensures) within
    (λ pos. omega (arith, c.if-low-run.false, c.from.ensures))
