-- What a batch in memory is to its callers.
use Rattle.std.specs.Prelude.{ℕ, List}

pub record BatchValue : Type 0 where
  pub sector : ℕ
  pub records : List ℕ
