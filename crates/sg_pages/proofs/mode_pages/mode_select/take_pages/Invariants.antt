use Rattle.std.proofs.Common.{◌≡◌, ◌≤◌, ◌-◌, length}
use Rattle.std.specs.List.{flat_map}
use Rattle.sg_pages.specs.ModeSelect.{first_fault, pages_from, page_faults, values_after}
use Rattle.sg_pages.proofs.mode_pages.mode_select.take_pages.Given as goal

-- the result of the rest of the list is the result of the list
abbrev pub invariant-loop-offset : goal.invariant-loop-offset
invariant-loop-offset l = record {
  inside : l.offset ≤ length l.list;
  faults : first_fault (length l.list)
      (flat_map (page_faults l.profile l.current) (pages_from l.offset l.list))
      ≡ first_fault (length l.list)
      (flat_map (page_faults l.profile l.current) (pages_from l.fn.first l.list));
  values : values_after l.values (pages_from l.offset l.list)
      ≡ values_after l.current (pages_from l.fn.first l.list);
}

abbrev pub decreases-loop-offset : goal.decreases-loop-offset
decreases-loop-offset l = length l.list - l.offset
