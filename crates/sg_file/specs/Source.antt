-- A file that is being read.
use Rattle.std.specs.Prelude.{ℕ, List}
use Rattle.sg_file.specs.Calls.{Call}

pub record SourceFields : Type 0 where
  -- the calls so far, the newest first
  pub calls : List Call
  -- the number of bytes that were not read yet
  pub left : ℕ
