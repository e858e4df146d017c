use Rattle.std.proofs.Common.{ℕ, List, [], ◌∷◌, ◌++◌}
use Rattle.journal_tests.proofs.writes.a_file_is_written_afresh.Goals as goal

pub finish_rewrite-requires-clause-drafts : goal.finish_rewrite-requires-clause-drafts
finish_rewrite-requires-clause-drafts g c =
    let s = c.in_ok-journal.ensures.batches in
    let begun = c.in_ok-begin_rewrite.ensures.begun s.0 [] s.1 in
    (s.0, _, c.in_ok-rewrite.ensures.added s.0 [] begun)
