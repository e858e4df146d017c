-- Records that are prepared for the table.
use Rattle.std.specs.Prelude.{ℕ, List, [], ◌∷◌, ◌++◌}
use Rattle.sg_table.specs.declared.run.Run.{Run}

-- Records that are to replace the records of a table from an index on, and the number of records
-- that there is room for.
pub record Drafted : Type 0 where
  pub from : ℕ
  pub records : List Run
  pub room : ℕ

-- No record is drafted.
abbrev pub empty_draft : (room : ℕ) → Drafted
empty_draft room = record { from = 0; records = []; room = room }

-- One more record is drafted, after the others.
abbrev pub pushed : Drafted → Run → Drafted
pushed draft run = record draft { records = draft.records ++ run ∷ [] }
