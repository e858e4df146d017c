use Rattle.std.proofs.Common.{◌≡◌, ℕ, List}
use Rattle.sg_journal.specs.Reading.{HasFound}
use Rattle.sg_journal.specs.MemoryBytes.{source_taken, source_left}
use Rattle.journal_tests.proofs.files.read_all.Given as goal

abbrev pub invariant-loop : goal.invariant-loop
invariant-loop l = record {
  found : (bs : List (List ℕ)) × HasFound source_taken source_left l.reader bs;
  sector : l.batch.sector ≡ l.reader.sector;
}

abbrev pub decreases-loop : goal.decreases-loop
decreases-loop l = source_left l.reader.source
