use Rattle.std.proofs.Common.{◌≡◌, ◌+◌, ◌-◌, ap, sym, ◌∙◌, arith}
use Rattle.sg_extent_map.proofs.StatusLemmas.{gap-low, gap-described, gap-on, over-high, over-row}
use Rattle.sg_extent_map.proofs.StatusLemmas.{row-ends, row-used, row-described}
use Rattle.sg_store.specs.LbaStatus.{status_at}
use Rattle.sg_pool.specs.MappedRecords.{contents_of}
use Rattle.sg_extent_map.specs.Extents.{singles}
use Rattle.std.proofs.Common.{◌<◌, inl, inr}
use Rattle.std.proofs.lemmas.Bool.{cases_lt}
use Rattle.sg_extent_map.proofs.status.describe.Goals as goal

-- the address is not mapped
pub count_unmapped-count-requires : goal.count_unmapped-count-requires
count_unmapped-count-requires c =
    omega (
      arith,
      gap-low c.args.table.now.records c.args.capacity c.args.lba c.args.lba c.args.cursor
          c.requires.table c.requires.cursor
          (sym c.run_over.ensures ∙ c.in_default.is) c.requires.address,
    )

pub returns-in_default-clause-descriptor : goal.returns-in_default-clause-descriptor
returns-in_default-clause-descriptor c =
    λ blocks. gap-described c.args.table.now.records c.args.capacity c.args.lba
    c.count_unmapped-count.result c.args.cursor
    c.requires.table c.requires.cursor (sym c.run_over.ensures ∙ c.in_default.is) c.requires.address
    c.count_unmapped-count.ensures blocks

pub returns-in_default-clause-cursor : goal.returns-in_default-clause-cursor
returns-in_default-clause-cursor c =
    gap-on c.args.table.now.records c.args.capacity c.args.lba c.count_unmapped-count.result
    c.args.cursor
    c.requires.table c.requires.cursor (sym c.run_over.ensures ∙ c.in_default.is) c.requires.address
    c.count_unmapped-count.ensures

-- the address is mapped
pub returns-clause-descriptor : goal.returns-clause-descriptor
returns-clause-descriptor c = λ blocks.
    let rs = c.args.table.now.records in
    let run = c.in-Some.run' in
    let lba = c.args.lba in
    let is = sym c.run_over.ensures ∙ c.in-Some.is in
    let e = c.pass_alike-next.ensures in
    let next = c.pass_alike-next.result.0 in
    let end = c.pass_alike-next.result.1 in
    let all : lba + (next - lba) ≡ next = omega (arith, e.order) in
    let stop = row-ends rs c.args.capacity next end run.kind blocks c.requires.table e.cursor e.end in
    let first = over-row rs c.args.capacity lba c.args.cursor c.requires.table c.requires.cursor run is
    blocks lba (omega arith) (over-high rs c.args.capacity lba c.args.cursor c.requires.table
    c.requires.cursor run is) in
    let some : lba < next = elim (cases_lt lba next) [
      | inl lt ↦ lt
      | inr ge ↦ let same : next ≡ lba = omega (arith, e.order) in
          absurd (stop (ap (status_at (contents_of (singles rs) blocks)) same ∙ first))
    ] in
    rw c.status_of-status.ensures (row-described rs c.args.capacity lba (next - lba) run.kind blocks
    (omega arith) (omega (
      arith,
      e.within c.args.capacity c.requires.table (omega (
        arith,
        c.requires.address,
      )),
    )) (omega (arith, e.short)) (rw all e.row) (rw all stop))

pub returns-clause-passed : goal.returns-clause-passed
returns-clause-passed c = λ blocks.
    let rs = c.args.table.now.records in
    let e = c.pass_alike-next.ensures in
    let next = c.pass_alike-next.result.0 in
    let lba = c.args.lba in
    let all : lba + (next - lba) ≡ next = omega (arith, e.order) in
    let used = row-used rs lba (next - lba) c.in-Some.run'.kind blocks (rw all e.row) in
    omega (arith, used, e.passed, e.order)
