-- What a journal has after its file was changed.
use Rattle.std.proofs.Common.{◌≡◌, ℕ, ◌+◌, ◌≤◌, ◌<◌, max, true, List, [], length, take, refl, sym}
use Rattle.std.proofs.Common.{◌∙◌, ap, subst, arith}
use Rattle.std.specs.Prelude.{Ok}
use Rattle.sg_journal.specs.Device.{Holds, NoMore, Only}
use Rattle.sg_journal.specs.Layout.{is_sector_length}
use Rattle.sg_journal.specs.Journal.{found, HasFirst}
use Rattle.sg_journal.specs.JournalState.{HasBatches, HasTail, IsClosed, IsDurable, IsWaiting, Keeps}
use Rattle.sg_journal.specs.declared.journal.Journal.{Journal}
use Rattle.sg_journal.specs.declared.journal.Tail.{Tail}
use Rattle.sg_journal.specs.declared.journal.Tail.TheVariants.{Unmade, Torn, Closed, Waiting}
use Rattle.sg_journal.proofs.Ends.{closed_found, closed_on}
use Rattle.sg_journal.proofs.Waits.{first_kept, holds_front, holds_length}

pub keeps_of : (tail : Tail) (n : ℕ) (file : List ℕ) (outcomes : List ℕ → Type 0)
    → IsDurable tail n file outcomes → Keeps n file outcomes
keeps_of Unmade n file outcomes only = λ c left. ap (take n) (only c left)
keeps_of Torn n file outcomes only = λ c left. ap (take n) (only c left)
keeps_of Closed n file outcomes only = λ c left. ap (take n) (only c left)
keeps_of (Waiting written) n file outcomes keeps = keeps

pub durable_from : (tail : Tail) (n : ℕ) (file : List ℕ) (outcomes : List ℕ → Type 0)
    → Only file outcomes → IsDurable tail n file outcomes
durable_from Unmade n file outcomes only = only
durable_from Torn n file outcomes only = only
durable_from Closed n file outcomes only = only
durable_from (Waiting written) n file outcomes only = λ c left. ap (take n) (only c left)

durable_less : (tail : Tail) (n : ℕ) (file : List ℕ) (old new : List ℕ → Type 0) → NoMore old new
    → IsDurable tail n file old → IsDurable tail n file new
durable_less Unmade n file old new no_more only = λ c left. only c (no_more c left)
durable_less Torn n file old new no_more only = λ c left. only c (no_more c left)
durable_less Closed n file old new no_more only = λ c left. only c (no_more c left)
durable_less (Waiting written) n file old new no_more keeps = λ c left. keeps c (no_more c left)

-- a change behind the gate: what a crash at any moment of it leaves
pub still_found : (sector end at : ℕ) (file : List ℕ) (bs : List (List ℕ))
    (outcomes : List ℕ → Type 0) → IsClosed sector end file bs → 0 < sector
    → Keeps (end + sector) file outcomes → end + sector ≤ at
    → (c : List ℕ) → HasFirst at outcomes c → found c ≡ Ok bs
still_found sector end at file bs outcomes closed some keeps le c has =
    closed_found sector end c bs
    (closed_on sector end file bs closed c (first_kept (end + sector) at file outcomes le keeps c has))
    some

module _ {D : Type 0} (seen : D → List ℕ) (may_leave : D → List ℕ → Type 0) where
  pub closed_has : (journal : Journal D) (bs : List (List ℕ))
      → is_sector_length journal.sector ≡ true → journal.tail ≡ Closed → 0 < journal.sector
      → IsClosed journal.sector journal.end (seen journal.device) bs
      → Only (seen journal.device) (may_leave journal.device)
      → journal.length ≡ length (seen journal.device) → HasBatches seen may_leave journal bs []
  closed_has journal bs valid tail some closed only long =
      let file = seen journal.device in
      let is = closed_found journal.sector journal.end file bs closed some in
      record {
        valid = valid;
        crash = λ c left. ap found (only c left) ∙ is;
        found = is;
        tail =
            subst (λ t. HasTail t journal.sector journal.end file bs []) (sym tail) (closed, refl);
        durable =
            subst (λ t. IsDurable t (journal.end + journal.sector) file
            (may_leave journal.device)) (sym tail) only;
        length = long;
      }

  pub waiting_has : (journal : Journal D) (file bytes : List ℕ) (outcomes : List ℕ → Type 0)
      (at written : ℕ) (bs ws : List (List ℕ))
      → is_sector_length journal.sector ≡ true → journal.tail ≡ Waiting written
      → 0 < journal.sector
      → IsWaiting journal.sector journal.end written (seen journal.device) bs ws
      → Keeps (journal.end + journal.sector) file outcomes → journal.end + journal.sector ≤ at
      → at ≤ length file → Holds file at bytes (seen journal.device)
      → ((c : List ℕ) → may_leave journal.device c → HasFirst at outcomes c)
      → journal.length ≡ max (length file) (at + length bytes)
      → HasBatches seen may_leave journal bs ws
  waiting_has journal file bytes outcomes at written bs ws valid tail some waits keeps le within put
      crash long =
      let n : ℕ = journal.end + journal.sector in
      let new = seen journal.device in
      let front : take n new ≡ take n file = holds_front n at file bytes new le within put in
      let kept : (c : List ℕ) → may_leave journal.device c → take n c ≡ take n new =
      λ c left. first_kept n at file outcomes le keeps c (crash c left) ∙ sym front in
      record {
        valid = valid;
        crash = λ c left. closed_found journal.sector journal.end c bs
            (closed_on journal.sector journal.end new bs waits.closed c (kept c left)) some;
        found = closed_found journal.sector journal.end new bs waits.closed some;
        tail =
            subst (λ t. HasTail t journal.sector journal.end new bs ws) (sym tail) waits;
        durable =
            subst (λ t. IsDurable t (journal.end + journal.sector) new
            (may_leave journal.device)) (sym tail) kept;
        length = long ∙ sym (holds_length at file bytes new within put);
      }

  -- nothing was changed but the draft
  pub same_has : (old journal : Journal D) (bs ws : List (List ℕ)) → HasBatches seen may_leave old bs ws
      → journal.sector ≡ old.sector → journal.tail ≡ old.tail → journal.end ≡ old.end
      → journal.length ≡ old.length → seen journal.device ≡ seen old.device
      → NoMore (may_leave old.device) (may_leave journal.device)
      → HasBatches seen may_leave journal bs ws
  same_has old journal bs ws s sector tail end long same no_more =
      let at : ℕ = old.end + old.sector in
      let place : old.end + old.sector ≡ journal.end + journal.sector = omega (arith, sector, end) in
      let durable : IsDurable old.tail at (seen old.device) (may_leave journal.device) =
      durable_less old.tail at (seen old.device) (may_leave old.device) (may_leave journal.device)
      no_more s.durable in
      record {
        valid = ap is_sector_length sector ∙ s.valid;
        crash = λ c left. s.crash c (no_more c left);
        found = ap found same ∙ s.found;
        tail =
            subst (λ t. HasTail t journal.sector journal.end (seen journal.device) bs ws) (sym tail)
            (subst (λ (n : ℕ). HasTail old.tail n journal.end (seen journal.device) bs ws) (sym sector)
            (subst (λ (n : ℕ). HasTail old.tail old.sector n (seen journal.device) bs ws) (sym end)
            (subst (λ (f : List ℕ). HasTail old.tail old.sector old.end f bs ws) (sym same) s.tail)));
        durable =
            subst (λ t. IsDurable t (journal.end + journal.sector) (seen journal.device)
            (may_leave journal.device)) (sym tail)
            (subst (λ (n : ℕ). IsDurable old.tail n (seen journal.device)
            (may_leave journal.device)) place
            (subst (λ (f : List ℕ). IsDurable old.tail at f (may_leave journal.device)) (sym same)
            durable));
        length = long ∙ s.length ∙ sym (ap length same);
      }
