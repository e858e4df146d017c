-- Runs and single addresses that rise.
use Rattle.std.specs.Prelude.{ℕ, ◌+◌, ◌<◌, ◌≤◌, List, [], ◌∷◌}
use Rattle.sg_table.specs.declared.run.Run.{Run}

-- The address past a run.
abbrev pub end_of : Run → ℕ
end_of run = run.start + run.count

-- The runs rise, from one address to another. None is empty, and no two have an address in common.
abbrev pub AreApart : (low high : ℕ) → List Run → Type 0
AreApart low high [] = low ≤ high
AreApart low high (run ∷ runs) =
    (low ≤ run.start) × (0 < run.count) × AreApart (end_of run) high runs

-- Single addresses rise, from one address and below another.
abbrev pub AreBetween : (low high : ℕ) → List Run → Type 0
AreBetween low high [] = low ≤ high
AreBetween low high (run ∷ runs) = (low ≤ run.start) × AreBetween (run.start + 1) high runs
