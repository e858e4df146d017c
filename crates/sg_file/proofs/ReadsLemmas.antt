-- A file that was read and not written.
use Rattle.std.proofs.Common.{◌≡◌, true, false, List, [], ◌∷◌, ◌++◌, ℕ, refl, ap}
use Rattle.sg_file.specs.Calls.{Call}
use Rattle.sg_file.specs.Calls.Call.{Read, Write, CutTo, Sync, BeginDraft, WriteDraft, Exchange}
use Rattle.sg_file.specs.History.{seen, opening, may_leave, moment, AreReads}

-- It has what it had when it was read.
as_it_was : (calls : List Call) → AreReads calls → opening calls ≡ seen calls
as_it_was [] reads = refl
as_it_was (Read bytes true ∷ h) reads = ap (λ (l : List ℕ). l ++ bytes) (as_it_was h reads)
as_it_was (Read bytes false ∷ h) reads = as_it_was h reads
as_it_was (Write at bytes ok ∷ h) reads = absurd reads
as_it_was (CutTo len ok ∷ h) reads = absurd reads
as_it_was (Sync ok ∷ h) reads = absurd reads
as_it_was (BeginDraft ok ∷ h) reads = absurd reads
as_it_was (WriteDraft bytes ok ∷ h) reads = absurd reads
as_it_was (Exchange ok ∷ h) reads = absurd reads

-- A crash leaves that.
leaves_it : (calls : List Call) → AreReads calls → (c : List ℕ) → may_leave calls c → c ≡ seen calls
leaves_it [] reads c left = left
leaves_it (Read bytes ok ∷ h) reads c left = left
leaves_it (Write at bytes ok ∷ h) reads c left = absurd reads
leaves_it (CutTo len ok ∷ h) reads c left = absurd reads
leaves_it (Sync ok ∷ h) reads c left = absurd reads
leaves_it (BeginDraft ok ∷ h) reads c left = absurd reads
leaves_it (WriteDraft bytes ok ∷ h) reads c left = absurd reads
leaves_it (Exchange ok ∷ h) reads c left = absurd reads

-- No other call was made.
no_moment : (calls : List Call) → AreReads calls → moment calls ≡ 0
no_moment [] reads = refl
no_moment (Read bytes ok ∷ h) reads = no_moment h reads
no_moment (Write at bytes ok ∷ h) reads = absurd reads
no_moment (CutTo len ok ∷ h) reads = absurd reads
no_moment (Sync ok ∷ h) reads = absurd reads
no_moment (BeginDraft ok ∷ h) reads = absurd reads
no_moment (WriteDraft bytes ok ∷ h) reads = absurd reads
no_moment (Exchange ok ∷ h) reads = absurd reads

pub record OnlyReads (calls : List Call) : Type 0 where
  pub opening : opening calls ≡ seen calls
  pub left : (c : List ℕ) → may_leave calls c → c ≡ seen calls
  pub moment : moment calls ≡ 0

pub only_reads : (calls : List Call) → AreReads calls → OnlyReads calls
only_reads calls reads = record {
  opening = as_it_was calls reads;
  left = leaves_it calls reads;
  moment = no_moment calls reads;
}
