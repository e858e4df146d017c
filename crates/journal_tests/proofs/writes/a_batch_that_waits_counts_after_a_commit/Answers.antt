use Rattle.std.proofs.Common.{◌≤◌, ◌+◌, ◌*◌, ℕ, List, length, arith, rules}
use Rattle.sg_journal.specs.Layout.{body_size}
use Rattle.journal_tests.proofs.Sectors.{body_below, sector_most}
use Rattle.journal_tests.proofs.writes.a_batch_that_waits_counts_after_a_commit.Goals as goal

pub write-requires-clause-length : goal.write-requires-clause-length
write-requires-clause-length g c =
    let sector : ℕ = c.in_ok-journal.journal.sector in
    let records : List ℕ = c.push.new.self.records in
    let most = sector_most sector c.in_ok-journal.ensures.batches.1.valid in
    let long : c.flush.new.self.length
    ≤ c.in_ok-journal.journal.length + 3 * sector + body_size sector (length records) + 262144 =
    c.in_ok-flush.ensures.length in
    let short : c.in_ok-journal.journal.length ≤ 2305843009213693952 = c.in_ok-journal.ensures.length in
    let count : length records ≤ 4194304 = search rules in
    omega (arith, most.1, body_below sector (length records) (omega (arith, most.0)), long, short, count)
