-- What a file stands for that was read to its end.
use Rattle.std.proofs.Common.{◌≡◌, ℕ, true, List, [], ◌++◌, length, refl, sym, ◌∙◌, ap, subst}
use Rattle.std.proofs.Common.{arith, append_assoc}
use Rattle.std.proofs.lemmas.List.{append-nil, nil_from_length}
use Rattle.std.specs.Prelude.{Option, Some, None, IsSome, Ok}
use Rattle.std.specs.Option.{unwrap_or}
use Rattle.std.proofs.lemmas.Bool.{false≢true}
use Rattle.sg_journal.specs.Journal.{found}
use Rattle.sg_journal.specs.Layout.{is_sector_length}
use Rattle.sg_journal.specs.Reading.{IsPlace}
use Rattle.sg_journal.specs.JournalState.{HasTail, IsClosed}
use Rattle.sg_journal.specs.declared.journal.Tail.{Tail}
use Rattle.sg_journal.specs.declared.journal.Tail.TheVariants.{Unmade, Torn, Closed, Waiting}
use Rattle.sg_journal.proofs.Batches.{head_ends}
use Rattle.sg_journal.proofs.Ends.{closed_found}
use Rattle.sg_journal.proofs.Heads.{found_nothing, sector_within}

-- a closed gate that was read, whatever is read after it
closed_more : (sector end : ℕ) (taken more : List ℕ) (bs : List (List ℕ))
    → IsClosed sector end taken bs → IsClosed sector end (taken ++ more) bs
closed_more sector end taken more bs h = record {
  head = h.head;
  gate = h.gate;
  rest = h.rest ++ more;
  is =
      ap (λ (l : List ℕ). l ++ more) h.is ∙ append_assoc h.head (h.gate ++ h.rest) more
      ∙ ap (λ (l : List ℕ). h.head ++ l) (append_assoc h.gate h.rest more);
  whole = h.whole;
  place = h.place;
  size = h.size;
  closed = h.closed;
}

nothing_more : (taken more : List ℕ) (left : ℕ) → length more ≡ left → left ≡ 0
    → taken ++ more ≡ taken
nothing_more taken more left size all =
    ap (λ (l : List ℕ). taken ++ l) (nil_from_length more (size ∙ all)) ∙ append-nil taken

pub ended_tail : (ended : Option Tail) (taken more : List ℕ) (left sector end : ℕ)
    (bs : List (List ℕ))
    → IsSome ended → length more ≡ left → IsPlace ended taken left sector end bs
    → HasTail (unwrap_or ended Torn) sector end (taken ++ more) bs []
ended_tail None taken more left sector end bs some size place = absurd (false≢true some)
ended_tail (Some Torn) taken more left sector end bs some size place = (
  record {
    head = place.head;
    rest = place.behind ++ more;
    is = ap (λ (l : List ℕ). l ++ more) place.is ∙ append_assoc place.head place.behind more;
    whole = place.whole;
    place = place.place;
    nothing = place.nothing more size;
  },
  refl,
)
ended_tail (Some Closed) taken more left sector end bs some size place = (
  closed_more sector end taken more bs place,
  refl,
)
ended_tail (Some Unmade) taken more left sector end bs some size place =
    subst (λ (l : List ℕ). HasTail Unmade sector end l bs [])
    (sym (nothing_more taken more left size place.all)) (place.unmade, refl)
ended_tail (Some (Waiting written)) taken more left sector end bs some size place = absurd place

pub ended_found : (ended : Option Tail) (taken more : List ℕ) (left sector end : ℕ)
    (bs : List (List ℕ))
    → is_sector_length sector ≡ true → IsSome ended → length more ≡ left
    → IsPlace ended taken left sector end bs
    → found (taken ++ more) ≡ Ok bs
ended_found None taken more left sector end bs valid some size place = absurd (false≢true some)
ended_found (Some Torn) taken more left sector end bs valid some size place =
    ap found (ap (λ (l : List ℕ). l ++ more) place.is ∙ append_assoc place.head place.behind more)
    ∙ head_ends sector place.head (place.behind ++ more) bs place.whole (place.nothing more size)
ended_found (Some Closed) taken more left sector end bs valid some size place =
    closed_found sector end (taken ++ more) bs (closed_more sector end taken more bs place)
    (let within = sector_within sector valid in omega (arith, within.0))
ended_found (Some (Waiting written)) taken more left sector end bs valid some size place = absurd place
ended_found (Some Unmade) taken more left sector end bs valid some size place =
    ap found (nothing_more taken more left size place.all ∙ place.unmade.is) ∙ found_nothing
    ∙ ap (λ (l : List (List ℕ)). Ok l) (sym place.unmade.nothing)
