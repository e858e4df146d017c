-- What the records of a batch leave.
use Rattle.std.specs.Prelude.{◌≡◌, ◌<◌, ℕ, zero, suc, List, [], ◌∷◌, length, take, drop}
use Rattle.std.specs.Prelude.{Option, Some, None}
use Rattle.sg_changes.specs.Change.{applied}
use Rattle.sg_changes.specs.Format.{◌>>=◌}
use Rattle.sg_changes.specs.KeptFields.{KeptFields}
use Rattle.sg_changes.specs.Records.{change_at}

-- The first record is applied. With it are the bytes after it.
unfoldable pub applied_at : List ℕ → KeptFields → Option (KeptFields × List ℕ)
applied_at bytes kept = do
  read ← change_at bytes
  after ← applied kept read.0
  Some (after, read.1)

-- At most `limit` records are applied, one after another.
abbrev pub replayed_by : (limit : ℕ) → List ℕ → KeptFields → Option KeptFields
replayed_by limit [] kept = Some kept
replayed_by zero (byte ∷ bytes) kept = None
replayed_by (suc limit) (byte ∷ bytes) kept =
    applied_at (byte ∷ bytes) kept >>= λ after. replayed_by limit after.1 after.0

-- All records are applied, one after another. None if one cannot be read, or does not apply.
unfoldable pub replayed : List ℕ → KeptFields → Option KeptFields
replayed bytes kept = replayed_by (length bytes) bytes kept

-- The records before an offset are applied, and the one there cannot be read, or does not apply.
pub record IsDamagedAt (bytes : List ℕ) (kept : KeptFields) (offset : ℕ) : Type 0 where
  pub before : KeptFields
  pub within : offset < length bytes
  pub sound : replayed (take offset bytes) kept ≡ Some before
  pub damaged : applied_at (drop offset bytes) before ≡ None
