-- The view of the bytes that were read of a script.
use Rattle.std.specs.Prelude.{ℕ, List}

-- The line that was taken last, and the bytes that are still to be taken.
pub record Window : Type 0 where
  pub line : List ℕ
  pub ahead : List ℕ
