-- The laws of a file in memory.
use Rattle.std.specs.Prelude.{◌≡◌, ℕ, List, [], ◌∷◌, length}
use Rattle.std.proofs.Common.{⊎_elim, arith}
use Rattle.sg_journal.specs.Record.{Event}
use Rattle.sg_journal.specs.Memory.{HadSince, LeftSince}

none_since : (log : List Event) (c : List ℕ) → HadSince log (length log) c → ⊥
none_since [] c had = had
none_since (e ∷ log) c had = omega (arith, had.0)

pub only_now : (log : List Event) (bytes c : List ℕ) → LeftSince log bytes (length log) c
    → c ≡ bytes
only_now log bytes c left = ⊎_elim (λ now. now) (λ had. absurd (none_since log c had)) left
