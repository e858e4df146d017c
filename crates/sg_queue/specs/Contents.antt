-- A file that somebody has read.
use Rattle.std.specs.Prelude.{ℕ, List}

pub record ContentsFields : Type 0 where
  -- the bytes that were taken
  pub taken : List ℕ
  -- the bytes after them
  pub rest : List ℕ
