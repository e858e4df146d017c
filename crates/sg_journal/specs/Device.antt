-- What the calls of a device do to its file, and what a crash may do between two syncs.
use Rattle.std.specs.Prelude.{◌<◌, ◌≡◌, ◌⊎◌, ℕ, ◌+◌, ◌≤◌, max, List, ◌++◌, length, take, drop}
use Rattle.std.specs.Prelude.{Result, IsErr}

-- The file is as it was, with these bytes at this offset.
abbrev pub Holds : (old : List ℕ) → (at : ℕ) → (bytes new : List ℕ) → Type 0
Holds old at bytes new = new ≡ take at old ++ bytes ++ drop (at + length bytes) old

-- After a write that a crash cuts short, the range and what is past the old end have any bytes.
-- The other bytes are as they were.
pub record Torn (at count : ℕ) (old new : List ℕ) : Type 0 where
  pub before : take at new ≡ take at old
  pub behind : drop (at + count) new ≡ drop (at + count) old
  pub no_shorter : length old ≤ length new
  pub no_longer : length new ≤ max (length old) (at + count)

-- After a cut that a crash undoes in part, the file has some length between.
pub record Cut (len : ℕ) (old new : List ℕ) : Type 0 where
  pub no_shorter : len ≤ length new
  pub front : take (length new) old ≡ new

-- Each new outcome of a crash is an old outcome after a step.
abbrev pub Follows : (step : List ℕ → List ℕ → Type 0) → (old new : List ℕ → Type 0) → Type 0
Follows step old new = (c : List ℕ) → new c → (d : List ℕ) × old d × step d c

-- A crash leaves this file and no other.
abbrev pub Only : (file : List ℕ) → (outcomes : List ℕ → Type 0) → Type 0
Only file outcomes = (c : List ℕ) → outcomes c → c ≡ file

-- No outcome of a crash is new.
abbrev pub NoMore : (old new : List ℕ → Type 0) → Type 0
NoMore old new = (c : List ℕ) → new c → old c

-- Each outcome of a crash is an old one, or this file.
abbrev pub NoMoreBut : (file : List ℕ) → (old new : List ℕ → Type 0) → Type 0
NoMoreBut file old new = (c : List ℕ) → new c → old c ⊎ (c ≡ file)

-- Time goes on: a crash since a moment might have left what it might have left before the call, or
-- what it may leave now.
pub record Elapses (before now : ℕ) (past since : ℕ → List ℕ → Type 0) (may_leave : List ℕ → Type 0)
    : Type 0 where
  pub later : before ≤ now
  pub nothing_else :
      (t : ℕ) (c : List ℕ) → t ≤ before → since t c → past t c ⊎ may_leave c
  pub keeps : (t : ℕ) (c : List ℕ) → t ≤ before → past t c → since t c

-- A crash at any moment since `old` leaves a file of which P holds.
pub record LeavesOnly {D : Type 0} (moment : D → ℕ) (left_since : D → ℕ → List ℕ → Type 0)
    (old new : D) (P : List ℕ → Type 0) : Type 0 where
  pub later : moment old ≤ moment new
  pub each : (c : List ℕ) → left_since new (moment old) c → P c
  -- for a run that began earlier
  pub before :
      (t : ℕ) (c : List ℕ) → t ≤ moment old → left_since new t c → left_since old t c ⊎ P c

-- An error is returned only if the device failed during the call.
pub record HasCause {T E : Type 0} (before now : ℕ) (result : Result T E) : Type 0 where
  pub later : before ≤ now
  pub failed : IsErr result → before < now
