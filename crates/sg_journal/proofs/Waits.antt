-- Batches that wait after a closed gate.
use Rattle.std.proofs.Common.{◌≡◌, inl, inr, ℕ, ◌+◌, ◌-◌, ◌≤◌, ◌<◌, max, List, [], ◌∷◌, ◌++◌}
use Rattle.std.proofs.Common.{length, get_or, take, drop, refl, sym, ◌∙◌, ap, subst, arith}
use Rattle.std.proofs.Common.{append_assoc, length-append, length-drop, take-append-drop}
use Rattle.std.proofs.Math.Seq.{take-append-add}
use Rattle.std.proofs.lemmas.Bool.{cases_eq}
use Rattle.std.proofs.lemmas.List.{take_at, take-append-le, take-take, drop-append-le, drop-take}
use Rattle.std.proofs.lemmas.List.{length-take-le}
use Rattle.sg_journal.specs.Device.{Holds}
use Rattle.sg_journal.specs.Layout.{closed_gate, open_gate, body, body_size, max_batch}
use Rattle.sg_journal.specs.Journal.{HasFirst, IsBeforeOrAfter, IsPut}
use Rattle.sg_journal.specs.JournalState.{IsClosed, IsWaiting, Keeps}
use Rattle.sg_journal.proofs.Buffers.{put_length}
use Rattle.sg_journal.proofs.Written.{length_gate, first_of_gate}
use Rattle.sg_journal.proofs.Ends.{added, closed_again, closed_found, closed_long, closed_on}

-- ---- A change of a file from an offset on

pub holds_front : (n at : ℕ) (file bytes new : List ℕ) → n ≤ at → at ≤ length file
    → Holds file at bytes new → take n new ≡ take n file
holds_front n at file bytes new le within is =
    let d : List ℕ = drop (at + length bytes) file in
    let long : length (take at file) ≡ at = length-take-le at file within in
    ap (take n) (is ∙ append_assoc (take at file) bytes d)
    ∙ take-append-le n (take at file) (bytes ++ d) (omega (arith, long))
    ∙ take-take n at file le

pub holds_length : (at : ℕ) (file bytes new : List ℕ) → at ≤ length file → Holds file at bytes new
    → length new ≡ max (length file) (at + length bytes)
holds_length at file bytes new within is =
    let d : List ℕ = drop (at + length bytes) file in
    omega (
      arith,
      ap length is,
      length-append (take at file ++ bytes) d,
      length-append (take at file) bytes,
      length-take-le at file within,
      length-drop (at + length bytes) file,
    )

-- what no crash changes stays, in each outcome that has the bytes before the change
pub first_kept : (n at : ℕ) (file : List ℕ) (outcomes : List ℕ → Type 0) → n ≤ at
    → Keeps n file outcomes → (c : List ℕ) → HasFirst at outcomes c → take n c ≡ take n file
first_kept n at file outcomes le keeps c has =
    sym (take-take n at c le) ∙ ap (take n) has.2 ∙ take-take n at has.0 le ∙ keeps has.0 has.1

-- ---- Batches that wait

-- a change after a gate, and then another gate: the same as the other way round
swapped : (e w : ℕ) (file g more : List ℕ) → e + length g ≤ w → w ≤ length file
    → take e (take w file ++ more) ++ g ++ drop (e + length g) (take w file ++ more)
    ≡ take w (take e file ++ g ++ drop (e + length g) file) ++ more
swapped e w file g more le within =
    let n : ℕ = e + length g in
    let k : ℕ = w - n in
    let is : w ≡ n + k = omega arith in
    let long : length (take w file) ≡ w = length-take-le w file within in
    let first : take e (take w file ++ more) ≡ take e file =
    take-append-le e (take w file) more (omega (arith, long)) ∙ take-take e w file (omega arith) in
    let front : length (take e file ++ g) ≡ n =
    omega (arith, length-append (take e file) g, length-take-le e file (omega arith)) in
    let behind : drop n (take w file ++ more) ≡ take k (drop n file) ++ more =
    drop-append-le n (take w file) more (omega (arith, long))
    ∙ ap (λ (m : ℕ). drop n (take m file) ++ more) is
    ∙ ap (λ (l : List ℕ). l ++ more) (drop-take n k file) in
    let up : take w (take e file ++ g ++ drop n file) ≡ (take e file ++ g) ++ take k (drop n file) =
    ap (λ (m : ℕ). take m ((take e file ++ g) ++ drop n file)) (is
    ∙ ap (λ (m : ℕ). m + k) (sym front))
    ∙ take-append-add (take e file ++ g) (drop n file) k in
    ap (λ (l : List ℕ). l ++ g ++ drop n (take w file ++ more)) first
    ∙ ap (λ (l : List ℕ). take e file ++ g ++ l) behind
    ∙ sym (append_assoc (take e file ++ g) (take k (drop n file)) more)
    ∙ ap (λ (l : List ℕ). l ++ more) (sym up)

-- a body and a closed gate, and any bytes
pub sealed_front : (sector size : ℕ) (image records : List ℕ)
    → take size image ≡ body sector records ++ closed_gate sector
    → image ≡ (body sector records ++ closed_gate sector) ++ drop size image
sealed_front sector size image records is =
    sym (take-append-drop size image) ∙ ap (λ (l : List ℕ). l ++ drop size image) is

-- the closed gate after them is in the file
pub waiting_fits : (sector end written : ℕ) (file : List ℕ) (bs ws : List (List ℕ))
    → IsWaiting sector end written file bs ws → 0 < sector → written + sector ≤ length file
waiting_fits sector end written file bs ws h some =
    let g : List ℕ = open_gate sector in
    let size = length_gate sector 1 some in
    let other : List ℕ = take end file ++ g ++ drop (end + length g) file in
    let room = closed_long sector end file bs h.closed in
    let long = closed_long sector written other (bs ++ ws)
    (h.opened g other size (first_of_gate sector 1) refl) in
    omega (arith, long, put_length end file g (omega (arith, size, room)))

module _ (sector end size : ℕ) (file image records new : List ℕ) (some : 0 < sector)
    (within : length records ≤ max_batch)
    (sealed : take size image ≡ body sector records ++ closed_gate sector)
  where
    -- the first one
    pub first_waits : (bs : List (List ℕ)) → IsClosed sector end file bs
        → Holds file (end + sector) image new
        → IsWaiting sector end (end + sector + body_size sector (length records)) new bs
        ([] ++ records ∷ [])
    first_waits bs h is = record {
      closed = closed_on sector end file bs h new
          (ap (take (end + sector)) (is ∙ append_assoc (take (end + sector) file) image tail)
          ∙ take_at (take (end + sector) file) (image ++ tail) (end + sector) long);
      behind = omega arith;
      opened = λ gate changed gate_size is_open put.
          let e : end + length gate ≡ end + sector = ap (λ (n : ℕ). end + n) gate_size in
          added sector end file bs h gate records (drop size image ++ tail) changed gate_size is_open
          within some
          (put
          ∙ ap (λ (l : List ℕ). take end l ++ gate ++ drop (end + length gate) l)
          (is ∙ append_assoc (take (end + sector) file) image tail)
          ∙ swapped end (end + sector) file gate (image ++ tail) (omega (arith, gate_size)) room
          ∙ ap (λ (l : List ℕ). l ++ (image ++ tail))
          (take_at (take end file ++ gate) (drop (end + length gate) file) (end + sector)
          (omega (
            arith,
            length-append (take end file) gate,
            length-take-le end file (omega (arith, room)),
            gate_size,
          )))
          ∙ append_assoc (take end file) gate (image ++ tail)
          ∙ ap (λ (l : List ℕ). take end file ++ (gate ++ (l ++ tail)))
          (sealed_front sector size image records sealed)
          ∙ ap (λ (l : List ℕ). take end file ++ (gate ++ l))
          (append_assoc (body sector records ++ closed_gate sector) (drop size image) tail));
    }
      where
        tail : List ℕ
        tail = drop (end + sector + length image) file

        room : end + sector ≤ length file
        room = closed_long sector end file bs h

        long : length (take (end + sector) file) ≡ end + sector
        long = length-take-le (end + sector) file room

    -- one more
    pub next_waits : (written : ℕ) (g : List ℕ) (bs ws : List (List ℕ))
        → IsWaiting sector end written file bs ws → length g ≡ sector → get_or g 0 0 ≡ 1
        → Holds file written (g ++ image) new
        → IsWaiting sector end (written + sector + body_size sector (length records)) new bs
        (ws ++ records ∷ [])
    next_waits written g bs ws h size_g open_g is = record {
      closed = closed_on sector end file bs h.closed new
          (holds_front (end + sector) written file (g ++ image) new h.behind room is);
      behind = omega (arith, h.behind);
      opened = λ gate changed gate_size is_open put.
          let le : end + length gate ≤ written = omega (arith, gate_size, h.behind) in
          let other : List ℕ = take end file ++ gate ++ drop (end + length gate) file in
          let closed : IsClosed sector written other (bs ++ ws) =
          h.opened gate other gate_size is_open refl in
          subst (λ (l : List (List ℕ)). IsClosed sector
          (written + sector + body_size sector (length records)) changed l)
          (append_assoc bs ws (records ∷ []))
          (added sector written other (bs ++ ws) closed g records (drop size image ++ tail) changed
          size_g open_g within some
          (put
          ∙ ap (λ (l : List ℕ). take end l ++ gate ++ drop (end + length gate) l)
          (is ∙ append_assoc (take written file) (g ++ image) tail)
          ∙ swapped end written file gate ((g ++ image) ++ tail) le room
          ∙ ap (λ (l : List ℕ). take written other ++ l) (append_assoc g image tail)
          ∙ ap (λ (l : List ℕ). take written other ++ (g ++ (l ++ tail)))
          (sealed_front sector size image records sealed)
          ∙ ap (λ (l : List ℕ). take written other ++ (g ++ l))
          (append_assoc (body sector records ++ closed_gate sector) (drop size image) tail)));
    }
      where
        tail : List ℕ
        tail = drop (written + length (g ++ image)) file

        room : written ≤ length file
        room = omega (arith, waiting_fits sector end written file bs ws h some)

-- ---- The gate before them is opened

module _ (sector end written : ℕ) (file : List ℕ) (bs ws : List (List ℕ))
    (h : IsWaiting sector end written file bs ws) (some : 0 < sector)
  where
    pub committed : (new : List ℕ) → Holds file end (open_gate sector) new
        → IsClosed sector written new (bs ++ ws)
    committed new is =
        h.opened (open_gate sector) new (length_gate sector 1 some) (first_of_gate sector 1) is

    pub put_gate : (c : List ℕ) → IsPut end sector file c → IsBeforeOrAfter bs ws c
    put_gate c put = elim (cases_eq (get_or put.bytes 0 0) 1) [
      | inl is_open ↦
          inr (closed_found sector written c (bs ++ ws) (h.opened put.bytes c put.size is_open (put.is
          ∙ ap (λ (n : ℕ). take end file ++ put.bytes ++ drop (end + n) file) (sym put.size))) some)
      | inr closed ↦
          inl (closed_found sector end c bs
          (closed_again sector end file bs h.closed put.bytes c put.size closed put.is) some)
    ]
