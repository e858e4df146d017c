-- A batch in memory.
use Rattle.std.specs.Prelude.{◌≡◌, ◌≤◌, ◌+◌, ◌*◌, length, take, drop, true}
use Rattle.sg_journal.specs.Layout.{is_sector_length}
use Rattle.sg_journal.specs.declared.batch.Batch.TheInside.{Inside}
use Rattle.sg_journal.specs.BatchValue.{BatchValue}
use Rattle.sg_journal.specs.declared.layout.TheConstants.{MAX_BATCH}

-- The records follow the fields of a body.
abbrev pub batch_of : Inside → BatchValue
batch_of b = record { sector = length b.gate.items; records = take b.len (drop 16 b.body.items) }

-- There is room for a gate, for a body with the most records, and for a closed gate after it.
pub record IsBuffer (b : Inside) : Type 0 where
  pub valid : is_sector_length (length b.gate.items) ≡ true
  pub least : 512 ≤ length b.gate.items
  pub most : length b.gate.items ≤ 65536
  pub room : length b.body.items ≡ MAX_BATCH + 16 + 2 * length b.gate.items
  pub within : b.len ≤ MAX_BATCH
