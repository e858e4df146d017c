-- A file in memory, by a record of what it held before each change.
use Rattle.std.specs.Prelude.{◌≡◌, ◌⊎◌, ◌≤◌, ℕ, ◌+◌, List, [], ◌∷◌, length, if◌then◌else◌}
use Rattle.sg_journal.specs.Record.{Event}

-- What the file held at some moment from that one on, before now.
abbrev pub HadSince : List Event → (moment : ℕ) → List ℕ → Type 0
HadSince [] moment c = ⊥
HadSince (e ∷ earlier) moment c =
    (moment ≤ length earlier) × ((c ≡ e.bytes) ⊎ HadSince earlier moment c)

-- What a crash at some moment from that one on might have left.
abbrev pub LeftSince : List Event → (bytes : List ℕ) → (moment : ℕ) → List ℕ → Type 0
LeftSince log bytes moment c = (c ≡ bytes) ⊎ HadSince log moment c

-- The calls that failed.
abbrev pub failures_in : List Event → ℕ
failures_in [] = 0
failures_in (e ∷ earlier) = (if e.succeeded then 0 else 1) + failures_in earlier

-- What was noted last.
abbrev pub noted : List Event → List ℕ
noted [] = []
noted (e ∷ earlier) = e.bytes
