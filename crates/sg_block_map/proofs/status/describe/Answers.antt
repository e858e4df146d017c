use Rattle.std.proofs.Common.{◌≡◌, ◌+◌, ◌-◌, ap, sym, ◌∙◌, arith}
use Rattle.sg_pool.specs.Rising.{end_of}
use Rattle.sg_block_map.proofs.StatusLemmas.{gap-low, gap-described, gap-rest, gap-on, over-high}
use Rattle.sg_block_map.proofs.StatusLemmas.{over-described, over-met, over-rest, over-on}
use Rattle.sg_block_map.proofs.status.describe.Goals as goal

-- the address is not mapped
pub count_unmapped-count-requires : goal.count_unmapped-count-requires
count_unmapped-count-requires c =
    omega (
      arith,
      gap-low c.args.table.now.records c.args.capacity c.args.lba c.args.lba c.args.cursor
          c.requires.table c.requires.cursor
          (sym c.run_over.ensures ∙ c.in_default.is) c.requires.address,
    )

pub returns-in_default-clause-descriptor : goal.returns-in_default-clause-descriptor
returns-in_default-clause-descriptor c =
    λ slots. gap-described c.args.table.now.records c.args.capacity c.args.lba
    c.count_unmapped-count.result c.args.cursor
    c.requires.table c.requires.cursor (sym c.run_over.ensures ∙ c.in_default.is) c.requires.address
    c.count_unmapped-count.ensures slots.next slots.blocks

pub returns-in_default-clause-cursor : goal.returns-in_default-clause-cursor
returns-in_default-clause-cursor c =
    gap-on c.args.table.now.records c.args.capacity c.args.lba c.count_unmapped-count.result
    c.args.cursor
    c.requires.table c.requires.cursor (sym c.run_over.ensures ∙ c.in_default.is) c.requires.address
    c.count_unmapped-count.ensures

pub returns-in_default-clause-met : goal.returns-in_default-clause-met
returns-in_default-clause-met c =
    let low = gap-low c.args.table.now.records c.args.capacity c.args.lba c.args.lba c.args.cursor
    c.requires.table c.requires.cursor
    (sym c.run_over.ensures ∙ c.in_default.is) c.requires.address in
    record {
      not_empty = omega (arith, low, c.count_unmapped-count.ensures);
      order = omega arith;
      met = λ i ge lt. absurd (omega arith);
      rest = gap-rest c.args.table.now.records c.args.capacity c.args.lba
          c.count_unmapped-count.result c.args.cursor c.requires.table c.requires.cursor
          (sym c.run_over.ensures ∙ c.in_default.is) c.requires.address
          c.count_unmapped-count.ensures;
    }

-- the address is mapped
pub overflow_sub-count : goal.overflow_sub-count
overflow_sub-count c =
    let high = over-high c.args.table.now.records c.args.capacity c.args.lba c.args.cursor
    c.requires.table c.requires.cursor
    c.in-Some.run' (sym c.run_over.ensures ∙ c.in-Some.is) in
    omega (arith, high, c.from.ensures)

pub returns-clause-descriptor : goal.returns-clause-descriptor
returns-clause-descriptor c =
    let rs = c.args.table.now.records in
    let is = sym c.run_over.ensures ∙ c.in-Some.is in
    let high = over-high rs c.args.capacity c.args.lba c.args.cursor c.requires.table
    c.requires.cursor c.in-Some.run' is in
    λ slots. ap (λ s. record {
      lba = c.args.lba;
      count = c.in-Some.run'.start + c.from.result - c.args.lba;
      status = s;
    }) c.status_of-status.ensures ∙ over-described rs c.args.capacity c.args.lba c.args.cursor
    c.requires.table
    c.requires.cursor c.in-Some.run' is
    (c.in-Some.run'.start + c.from.result - c.args.lba)
    (omega (arith, high, c.from.ensures)) slots.next slots.blocks

pub returns-clause-cursor : goal.returns-clause-cursor
returns-clause-cursor c =
    let rs = c.args.table.now.records in
    let is = sym c.run_over.ensures ∙ c.in-Some.is in
    let high = over-high rs c.args.capacity c.args.lba c.args.cursor c.requires.table
    c.requires.cursor c.in-Some.run' is in
    over-on rs c.args.capacity c.args.lba c.args.cursor c.requires.table c.requires.cursor
    c.in-Some.run' is
    (c.in-Some.run'.start + c.from.result - c.args.lba) (omega (arith, high, c.from.ensures))
    c.new-end.result c.new-end.ensures.index c.new-end.ensures.next

pub returns-clause-met : goal.returns-clause-met
returns-clause-met c =
    let rs = c.args.table.now.records in
    let is = sym c.run_over.ensures ∙ c.in-Some.is in
    let high = over-high rs c.args.capacity c.args.lba c.args.cursor c.requires.table
    c.requires.cursor c.in-Some.run' is in
    let count = c.in-Some.run'.start + c.from.result - c.args.lba in
    let long : c.args.lba + count ≡ end_of c.in-Some.run' = omega (arith, high, c.from.ensures) in
    record {
      not_empty = omega (arith, high, c.from.ensures);
      order = omega (arith, c.new-end.ensures.index);
      met = rw c.new-end.ensures.index
          (over-met rs c.args.capacity c.args.lba c.args.cursor c.requires.table
          c.requires.cursor c.in-Some.run' is count long);
      rest = rw c.new-end.ensures.index
          (over-rest rs c.args.capacity c.args.lba c.args.cursor c.requires.table
          c.requires.cursor c.in-Some.run' is count long);
    }
