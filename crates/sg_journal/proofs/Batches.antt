-- What lists of bytes stand for, as batches.
use Rattle.std.proofs.Common.{◌≡◌, inl, inr, ℕ, zero, suc, ◌+◌, ◌≤◌, Bool, true, false, cond}
use Rattle.std.proofs.Common.{List, [], ◌∷◌, ◌++◌, length, drop, refl, sym, ◌∙◌, ap, arith}
use Rattle.std.proofs.Common.{append_assoc, length-append, length-drop}
use Rattle.std.specs.Prelude.{Ok, Err}
use Rattle.std.proofs.lemmas.Bool.{cases_Bool}
use Rattle.std.proofs.lemmas.List.{append-nil, drop_at}
use Rattle.sg_journal.specs.Layout.{body_size, length_in, records_in, size_in, counts, is_sound}
use Rattle.sg_journal.specs.Journal.{Found, after, batches_by, batches, found, IsHead}
use Rattle.sg_journal.specs.declared.fault.Fault.TheVariants.{Damaged}
use Rattle.sg_journal.proofs.Fields.{Counts, has, has_from, body_fits, counts_more, records_more}
use Rattle.sg_journal.proofs.Fields.{length_more, sound_more, short}

-- ---- More batches behind some

pub after_none : (r : Found) → after [] r ≡ r
after_none (Ok l) = refl
after_none (Err f) = refl

pub after_both : (a b : List (List ℕ)) (r : Found) → after a (after b r) ≡ after (a ++ b) r
after_both a b (Ok l) = ap (λ (x : List (List ℕ)). Ok x) (sym (append_assoc a b l))
after_both a b (Err f) = refl

pub after_end : (a : List (List ℕ)) → after a (Ok []) ≡ Ok a
after_end a = ap (λ (x : List (List ℕ)). Ok x) (append-nil a)

-- ---- One step

-- What is found behind the batch at the front, in at most so many steps.
abbrev behind : (most sector offset : ℕ) → List ℕ → Found
behind most sector offset bytes =
    batches_by most sector (offset + size_in sector bytes) (drop (size_in sector bytes) bytes)

-- What is found, by the two tests, and by what is found behind the batch.
abbrev step : (here sound : Bool) → (sector offset : ℕ) → List ℕ → Found → Found
step here sound sector offset bytes more =
    cond here (cond sound (after (records_in sector bytes ∷ []) more) (Err (Damaged offset))) (Ok [])

-- The number of steps does not matter if it is large enough.
same_steps : (n m sector offset : ℕ) (bytes : List ℕ) → length bytes ≤ n → length bytes ≤ m
    → batches_by n sector offset bytes ≡ batches_by m sector offset bytes
same_steps zero zero sector offset bytes a b = refl
same_steps zero (suc m) sector offset bytes a b =
    sym (ap (λ (t : Bool). step t (is_sound sector bytes) sector offset bytes
    (behind m sector offset bytes)) (short sector bytes (omega arith)))
same_steps (suc n) zero sector offset bytes a b =
    ap (λ (t : Bool). step t (is_sound sector bytes) sector offset bytes
    (behind n sector offset bytes)) (short sector bytes (omega arith))
same_steps (suc n) (suc m) sector offset bytes a b = elim (cases_Bool (counts sector bytes)) [
  | inl here ↦
      let fits = body_fits sector (length_in sector bytes) in
      let whole = (has sector bytes here).whole in
      let size : ℕ = size_in sector bytes in
      let rest : length (drop size bytes) + 16 ≤ length bytes =
      omega (arith, length-drop size bytes, fits, whole) in
      ap (λ (r : Found). step (counts sector bytes) (is_sound sector bytes) sector offset bytes r)
      (same_steps n m sector (offset + size) (drop size bytes) (omega arith) (omega arith))
  | inr none ↦
      ap (λ (t : Bool). step t (is_sound sector bytes) sector offset bytes
      (behind n sector offset bytes)) none
      ∙ sym (ap (λ (t : Bool). step t (is_sound sector bytes) sector offset bytes
      (behind m sector offset bytes)) none)
]

batches_step : (sector offset : ℕ) (bytes : List ℕ)
    → batches sector offset bytes
    ≡ step (counts sector bytes) (is_sound sector bytes) sector offset bytes
    (behind (length bytes) sector offset bytes)
unfolding batches
batches_step sector offset bytes =
    same_steps (length bytes) (suc (length bytes)) sector offset bytes (omega arith) (omega arith)

-- The same, where the two tests are known.
tested : (sector offset : ℕ) (bytes : List ℕ) (here sound : Bool) → counts sector bytes ≡ here
    → is_sound sector bytes ≡ sound
    → batches sector offset bytes
    ≡ step here sound sector offset bytes (behind (length bytes) sector offset bytes)
tested sector offset bytes here sound p q =
    batches_step sector offset bytes
    ∙ ap (λ (t : Bool). step t (is_sound sector bytes) sector offset bytes
    (behind (length bytes) sector offset bytes)) p
    ∙ ap (λ (t : Bool). step here t sector offset bytes
    (behind (length bytes) sector offset bytes)) q

pub batches_none : (sector offset : ℕ) (bytes : List ℕ) → counts sector bytes ≡ false
    → batches sector offset bytes ≡ Ok []
batches_none sector offset bytes none = tested sector offset bytes false _ none refl

pub batches_damaged : (sector offset : ℕ) (bytes : List ℕ) → counts sector bytes ≡ true
    → is_sound sector bytes ≡ false → batches sector offset bytes ≡ Err (Damaged offset)
batches_damaged sector offset bytes here bad = tested sector offset bytes true false here bad

pub batches_more : (sector offset : ℕ) (bytes : List ℕ) → counts sector bytes ≡ true
    → is_sound sector bytes ≡ true
    → batches sector offset bytes
    ≡ after (records_in sector bytes ∷ [])
    (batches sector (offset + size_in sector bytes) (drop (size_in sector bytes) bytes))
unfolding batches
batches_more sector offset bytes here sound =
    let rest : List ℕ = drop (size_in sector bytes) bytes in
    tested sector offset bytes true true here sound
    ∙ ap (λ (r : Found). after (records_in sector bytes ∷ []) r)
    (same_steps (length bytes) (length rest) sector (offset + size_in sector bytes) rest
    (omega (arith, length-drop (size_in sector bytes) bytes)) (omega arith))

-- ---- Whole batches, whatever stands behind them

pub record IsFront (sector : ℕ) (front : List ℕ) (bs : List (List ℕ)) : Type 0 where
  pub stands : (offset : ℕ) (rest : List ℕ)
      → batches sector offset (front ++ rest) ≡ after bs
      (batches sector (offset + length front) rest)

pub front_one : (sector : ℕ) (bytes : List ℕ) → Counts sector bytes → is_sound sector bytes ≡ true
    → length bytes ≡ size_in sector bytes → IsFront sector bytes (records_in sector bytes ∷ [])
front_one sector bytes c sound size = record { stands = each }
  where
    fits : length_in sector bytes + 16 ≤ body_size sector (length_in sector bytes)
    fits = body_fits sector (length_in sector bytes)

    same_size : (rest : List ℕ) → size_in sector (bytes ++ rest) ≡ length bytes
    same_size rest = ap (λ (n : ℕ). sector + body_size sector n)
        (length_more sector bytes rest (omega (arith, fits, size))) ∙ sym size

    each : (offset : ℕ) (rest : List ℕ)
        → batches sector offset (bytes ++ rest) ≡ after (records_in sector bytes ∷ [])
        (batches sector (offset + length bytes) rest)
    each offset rest =
        batches_more sector offset (bytes ++ rest)
        (has_from sector (bytes ++ rest) (counts_more sector bytes rest c))
        (sound_more sector bytes rest c ∙ sound)
        ∙ ap (λ (l : List ℕ). after (l ∷ [])
        (batches sector (offset + size_in sector (bytes ++ rest))
        (drop (size_in sector (bytes ++ rest)) (bytes ++ rest))))
        (records_more sector bytes rest (omega (arith, fits, size)))
        ∙ ap (λ (n : ℕ). after (records_in sector bytes ∷ [])
        (batches sector (offset + n) (drop n (bytes ++ rest)))) (same_size rest)
        ∙ ap (λ (l : List ℕ). after (records_in sector bytes ∷ [])
        (batches sector (offset + length bytes) l)) (drop_at bytes rest (length bytes) refl)

pub head_append : (sector : ℕ) (head front : List ℕ) (bs cs : List (List ℕ)) → IsHead sector head bs
    → IsFront sector front cs → IsHead sector (head ++ front) (bs ++ cs)
head_append sector head front bs cs h k = record {
  stands = λ rest.
      ap found (append_assoc head front rest) ∙ h.stands (front ++ rest)
      ∙ ap (after bs) (k.stands (length head) rest)
      ∙ after_both bs cs (batches sector (length head + length front) rest)
      ∙ ap (λ (n : ℕ). after (bs ++ cs) (batches sector n rest)) (sym (length-append head front));
}

-- ---- A file that ends behind its batches

pub head_ends : (sector : ℕ) (head rest : List ℕ) (bs : List (List ℕ)) → IsHead sector head bs
    → counts sector rest ≡ false → found (head ++ rest) ≡ Ok bs
head_ends sector head rest bs h none = h.stands rest
    ∙ ap (after bs) (batches_none sector (length head) rest none) ∙ after_end bs

pub head_only : (sector : ℕ) (head : List ℕ) (bs : List (List ℕ)) → IsHead sector head bs
    → found head ≡ Ok bs
head_only sector head bs h = ap found (sym (append-nil head))
    ∙ head_ends sector head [] bs h (short sector [] (omega arith))

pub head_damaged : (sector : ℕ) (head rest : List ℕ) (bs : List (List ℕ)) → IsHead sector head bs
    → counts sector rest ≡ true → is_sound sector rest ≡ false
    → found (head ++ rest) ≡ Err (Damaged (length head))
head_damaged sector head rest bs h here bad = h.stands rest
    ∙ ap (after bs) (batches_damaged sector (length head) rest here bad)
