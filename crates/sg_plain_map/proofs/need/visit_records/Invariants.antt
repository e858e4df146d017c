use Rattle.std.proofs.Common.{◌≡◌, ◌-◌}
use Rattle.sg_table.specs.Table.{visited}
use Rattle.sg_plain_map.proofs.need.visit_records.Given as goal

-- the records so far were visited
abbrev pub invariant-loop-index : goal.invariant-loop-index
invariant-loop-index l = l.table ≡ visited l.fn.table (l.index - l.from)
