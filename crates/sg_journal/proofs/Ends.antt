-- What a crash leaves of the end of a file, and of a file that is written afresh.
use Rattle.std.proofs.Common.{◌≡◌, ◌≢◌, ℕ, ◌+◌, ◌-◌, ◌≤◌, ◌<◌, false, List, [], ◌∷◌, ◌++◌}
use Rattle.std.proofs.Common.{length, get_or, take, drop, sym, ◌∙◌, ap, arith}
use Rattle.std.proofs.Common.{append_assoc, length-append, take-append-drop}
use Rattle.std.specs.Prelude.{Ok}
use Rattle.std.proofs.Math.Seq.{take-append-add}
use Rattle.std.proofs.lemmas.List.{append-nil, take_at, get_or_append_left}
use Rattle.sg_journal.specs.Layout.{closed_gate, body, body_size, counts, max_batch}
use Rattle.sg_journal.specs.Journal.{found, IsHead, IsGrown, IsCut}
use Rattle.sg_journal.specs.JournalState.{IsTorn, IsClosed}
use Rattle.sg_journal.proofs.Fields.{shut, short, none_in_prefix}
use Rattle.sg_journal.proofs.Batches.{head_append, head_ends}
use Rattle.sg_journal.proofs.Written.{length_gate, first_of_gate, length_body, front_written}

regroup : (a g b c d : List ℕ) → a ++ (g ++ ((b ++ c) ++ d)) ≡ (a ++ (g ++ b)) ++ (c ++ d)
regroup a g b c d = simp append_assoc

-- ---- A closed gate

pub closed_first : (sector : ℕ) → get_or (closed_gate sector) 0 0 ≢ 1
closed_first sector one =
    let e : 0 ≡ 1 = sym (first_of_gate sector 0) ∙ one in
    omega (arith, e)

pub shut_behind : (sector : ℕ) (g rest : List ℕ) → length g ≡ sector → 0 < sector → get_or g 0 0 ≢ 1
    → counts sector (g ++ rest) ≡ false
shut_behind sector g rest size some closed =
    shut sector (g ++ rest)
    (λ one. closed (sym (get_or_append_left g rest 0 0 (omega (arith, size))) ∙ one))

pub closed_ends : (sector : ℕ) (head : List ℕ) (bs : List (List ℕ)) → IsHead sector head bs
    → found (head ++ closed_gate sector) ≡ Ok bs
closed_ends sector head bs whole =
    head_ends sector head (closed_gate sector) bs whole
    (shut sector (closed_gate sector) (closed_first sector))

pub is_closed : (sector end : ℕ) (file head rest : List ℕ) (bs : List (List ℕ))
    → IsHead sector head bs
    → file ≡ head ++ (closed_gate sector ++ rest) → end ≡ length head → 0 < sector
    → IsClosed sector end file bs
is_closed sector end file head rest bs whole is place some = record {
  head = head;
  gate = closed_gate sector;
  rest = rest;
  is = is;
  whole = whole;
  place = place;
  size = length_gate sector 0 some;
  closed = closed_first sector;
}

-- a file that ends with a closed gate
pub closed_last : (sector end : ℕ) (file head : List ℕ) (bs : List (List ℕ))
    → IsHead sector head bs
    → file ≡ head ++ closed_gate sector → end ≡ length head → 0 < sector
    → IsClosed sector end file bs
closed_last sector end file head bs whole is place some =
    is_closed sector end file head [] bs whole
    (is ∙ ap (λ (l : List ℕ). head ++ l) (sym (append-nil (closed_gate sector)))) place some

module _ (sector end : ℕ) (file : List ℕ) (bs : List (List ℕ)) (h : IsClosed sector end file bs)
  where
    pub closed_found : 0 < sector → found file ≡ Ok bs
    closed_found some =
        ap found h.is
        ∙ head_ends sector h.head (h.gate ++ h.rest) bs h.whole
        (shut_behind sector h.gate h.rest h.size some h.closed)

    pub closed_long : end + sector ≤ length file
    closed_long =
        omega (
          arith,
          ap length h.is,
          length-append h.head (h.gate ++ h.rest),
          length-append h.gate h.rest,
          h.place,
          h.size,
        )

    pub closed_head : take end file ≡ h.head
    closed_head = ap (take end) h.is ∙ take_at h.head (h.gate ++ h.rest) end (sym h.place)

    closed_front : take (end + sector) file ≡ h.head ++ h.gate
    closed_front =
        ap (take (end + sector)) (h.is ∙ sym (append_assoc h.head h.gate h.rest))
        ∙ take_at (h.head ++ h.gate) h.rest (end + sector)
        (omega (arith, length-append h.head h.gate, h.place, h.size))

    -- the bytes up to the gate decide
    pub closed_on : (c : List ℕ) → take (end + sector) c ≡ take (end + sector) file
        → IsClosed sector end c bs
    closed_on c same = record {
      head = h.head;
      gate = h.gate;
      rest = drop (end + sector) c;
      is =
          sym (take-append-drop (end + sector) c)
          ∙ ap (λ (l : List ℕ). l ++ drop (end + sector) c) (same ∙ closed_front)
          ∙ append_assoc h.head h.gate (drop (end + sector) c);
      whole = h.whole;
      place = h.place;
      size = h.size;
      closed = h.closed;
    }

    -- another gate that is not open
    pub closed_again : (g c : List ℕ) → length g ≡ sector → get_or g 0 0 ≢ 1
        → c ≡ take end file ++ g ++ drop (end + sector) file → IsClosed sector end c bs
    closed_again g c size closed is = record {
      head = h.head;
      gate = g;
      rest = drop (end + sector) file;
      is =
          is ∙ ap (λ (l : List ℕ). l ++ g ++ drop (end + sector) file) closed_head
          ∙ append_assoc h.head g (drop (end + sector) file);
      whole = h.whole;
      place = h.place;
      size = size;
      closed = closed;
    }

    -- an open gate in its place, and after it a body, a closed gate and any bytes
    pub added : (g records rest new : List ℕ) → length g ≡ sector → get_or g 0 0 ≡ 1
        → length records ≤ max_batch → 0 < sector
        → new ≡ take end file ++ (g ++ ((body sector records ++ closed_gate sector) ++ rest))
        → IsClosed sector (end + sector + body_size sector (length records)) new (bs ++ records ∷ [])
    added g records rest new size is_open within some is =
        let b : List ℕ = body sector records in
        let all : new ≡ (h.head ++ (g ++ b)) ++ (closed_gate sector ++ rest) =
        is ∙ ap (λ (l : List ℕ). l ++ (g ++ ((b ++ closed_gate sector) ++ rest))) closed_head
        ∙ regroup h.head g b (closed_gate sector) rest in
        is_closed sector (end + sector + body_size sector (length records)) new (h.head ++ (g ++ b))
        rest (bs ++ records ∷ [])
        (head_append sector h.head (g ++ b) bs (records ∷ []) h.whole
        (front_written sector g records size within some is_open))
        all
        (omega (
          arith,
          length-append h.head (g ++ b),
          length-append g b,
          length_body sector records,
          size,
          h.place,
        ))
        some

-- ---- A repair

module _ (sector end : ℕ) (file : List ℕ) (bs : List (List ℕ)) (h : IsTorn sector end file bs)
    (some : 0 < sector) where
  front : take end file ≡ h.head
  front = ap (take end) h.is ∙ take_at h.head h.rest end (sym h.place)

  pub cut_keeps : (c : List ℕ) → IsCut end file c → found c ≡ Ok bs
  cut_keeps c cut =
      let k : ℕ = cut.left - end in
      let left : cut.left ≡ length h.head + k = omega (arith, cut.no_less, h.place) in
      ap found (cut.is ∙ ap (take cut.left) h.is ∙ ap (λ (n : ℕ). take n (h.head ++ h.rest)) left
      ∙ take-append-add h.head h.rest k)
      ∙ head_ends sector h.head (take k h.rest) bs h.whole
      (none_in_prefix sector h.rest k h.nothing)

  pub grown_keeps : (c : List ℕ) → IsGrown sector (take end file) c → found c ≡ Ok bs
  grown_keeps c grown =
      ap found (grown.is ∙ ap (λ (l : List ℕ). l ++ grown.more) front)
      ∙ head_ends sector h.head grown.more bs h.whole (short sector grown.more grown.short)

  pub repaired : (new : List ℕ) → new ≡ take end file ++ closed_gate sector
      → IsClosed sector end new bs
  repaired new is =
      closed_last sector end new h.head bs h.whole (is
      ∙ ap (λ (l : List ℕ). l ++ closed_gate sector) front) h.place some

  pub repaired_found : (new : List ℕ) → new ≡ take end file ++ closed_gate sector
      → found new ≡ Ok bs
  repaired_found new is = ap found (is ∙ ap (λ (l : List ℕ). l ++ closed_gate sector) front)
      ∙ closed_ends sector h.head bs h.whole

  pub within_file : end ≤ length file
  within_file = omega (arith, ap length h.is, length-append h.head h.rest, h.place)
