use Rattle.std.proofs.Common.{◌≡◌, ◌+◌, drop}
use Rattle.sg_pages.specs.ModeSelect.{differences, least}
use Rattle.sg_pages.proofs.mode_pages.list_check.first_difference.Given as goal

-- the first byte that differs in the rest is the first that differs
abbrev pub invariant-loop-k : goal.invariant-loop-k
invariant-loop-k l = least (differences (l.offset + l.k) (drop l.k l.expected) (drop l.k l.ignored)
    (drop l.k l.sent)) ≡ least (differences l.offset l.expected l.ignored l.sent)
