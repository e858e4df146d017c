use Rattle.std.proofs.Common.{◌∙◌}
use Rattle.mehdalung.proofs.mehdalung_happen.Goals as goal

-- The happening that was read is the one that the record asks for, and reading it leaves the disk.
pub returns-in-Ok-clause-refused : goal.returns-in-Ok-clause-refused
returns-in-Ok-clause-refused c refused =
    let kept = c.asked.ensures.kept in
    c.happen.ensures.refused
    (λ done. refused (rw (← c.asked.ensures.value, c.in-Ok.is, ← kept) done))
    ∙ kept

pub returns-in-Ok-clause-happened : goal.returns-in-Ok-clause-happened
returns-in-Ok-clause-happened c done =
    let kept = c.asked.ensures.kept in
    rw (← c.asked.ensures.value, c.in-Ok.is, ← kept)
    (c.happen.ensures.happened (rw (kept, ← c.in-Ok.is, c.asked.ensures.value) done))
