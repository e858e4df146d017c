-- The moments of a file's history.
use Rattle.std.specs.Prelude.{ℕ, List, [], ◌∷◌}
use Rattle.std.proofs.Common.{inl, ⊎_elim, arith}
use Rattle.sg_file.specs.Calls.{Call}
use Rattle.sg_file.specs.Calls.Call.{Read, Write, CutTo, Sync, BeginDraft, WriteDraft, Exchange}
use Rattle.sg_file.specs.History.{moment, may_leave, left_since}

-- This moment is one of those since an earlier one.
pub counts_now : (calls : List Call) (since : ℕ) (c : List ℕ) → may_leave calls c
    → left_since calls since c
counts_now [] since c now = now
counts_now (Read bytes ok ∷ earlier) since c now = now
counts_now (Write at bytes ok ∷ earlier) since c now = inl now
counts_now (CutTo len ok ∷ earlier) since c now = inl now
counts_now (Sync ok ∷ earlier) since c now = inl now
counts_now (BeginDraft ok ∷ earlier) since c now = inl now
counts_now (WriteDraft bytes ok ∷ earlier) since c now = inl now
counts_now (Exchange ok ∷ earlier) since c now = inl now

-- Since this moment there is no other.
pub only_now : (calls : List Call) (c : List ℕ) → left_since calls (moment calls) c → may_leave calls c
only_now [] c left = left
only_now (Read bytes ok ∷ earlier) c left = left
only_now (Write at bytes ok ∷ earlier) c left =
    ⊎_elim (λ now. now) (λ was. absurd (omega (arith, was.0))) left
only_now (CutTo len ok ∷ earlier) c left =
    ⊎_elim (λ now. now) (λ was. absurd (omega (arith, was.0))) left
only_now (Sync ok ∷ earlier) c left =
    ⊎_elim (λ now. now) (λ was. absurd (omega (arith, was.0))) left
only_now (BeginDraft ok ∷ earlier) c left =
    ⊎_elim (λ now. now) (λ was. absurd (omega (arith, was.0))) left
only_now (WriteDraft bytes ok ∷ earlier) c left =
    ⊎_elim (λ now. now) (λ was. absurd (omega (arith, was.0))) left
only_now (Exchange ok ∷ earlier) c left =
    ⊎_elim (λ now. now) (λ was. absurd (omega (arith, was.0))) left
