-- The fields of a batch, whatever stands behind it.
use Rattle.std.proofs.Common.{◌≡◌, ◌≢◌, inl, inr, ℕ, ◌+◌, ◌-◌, ◌%◌, ◌≤◌, ◌<◌, Bool, true, false}
use Rattle.std.proofs.Common.{◌&&◌}
use Rattle.std.proofs.Common.{eqb, List, ◌++◌, length, get_or, take, drop}
use Rattle.std.proofs.Common.{refl, sym, ◌∙◌, ap, subst, arith, length-append, length-drop}
use Rattle.std.proofs.Common.{take-append-drop}
use Rattle.std.proofs.Math.Nat.{mod-eq_of_lt}
use Rattle.std.proofs.lemmas.Bool.{cases_Bool, cases_lt, false≢true, eqb-true, leb-true, eq-eqb}
use Rattle.std.proofs.lemmas.Bool.{le-leb}
use Rattle.std.proofs.lemmas.List.{drop-append-le, take-append-le, get_or_append_left}
use Rattle.byteorder.specs.Numbers.{big_from-append}
use Rattle.sg_journal.specs.Layout.{body_size, max_batch, length_in, checksum_in, records_in}
use Rattle.sg_journal.specs.Layout.{size_in}
use Rattle.sg_journal.specs.Layout.{counts, is_sound, checksum}

-- ---- The length of a body

pub body_fits : (sector count : ℕ) → count + 16 ≤ body_size sector count
unfolding body_size
body_fits sector count = omega arith

pub body_below : (sector count : ℕ) → 0 < sector → body_size sector count < count + 16 + sector
unfolding body_size
body_below sector count some = omega arith

-- A body has a sector at least.
pub body_some : (sector count : ℕ) → 0 < sector → sector ≤ body_size sector count
unfolding body_size
body_some sector count some = elim (cases_lt (count + 16) sector) [
  | inl small ↦
      let short : (count + 16) % sector ≡ count + 16 = mod-eq_of_lt small in
      let rest : (sector - (count + 16)) % sector ≡ sector - (count + 16) =
      mod-eq_of_lt (omega arith) in
      let e : (sector - (count + 16) % sector) % sector ≡ sector - (count + 16) =
      ap (λ (n : ℕ). (sector - n) % sector) short ∙ rest in
      omega (arith, e)
  | inr large ↦ omega arith
]

pub ruleset body_sizes = (body_fits, body_below, body_some)

-- ---- The test whether a batch counts

pub both : (a b : Bool) → (a && b) ≡ true → (a ≡ true) × (b ≡ true)
both true b h = (refl, h)
both false b h = absurd (false≢true h)

both_from : (a b : Bool) → a ≡ true → b ≡ true → (a && b) ≡ true
both_from true b p q = q
both_from false b p q = absurd (false≢true p)

pub record Counts (sector : ℕ) (bytes : List ℕ) : Type 0 where
  pub open_gate : get_or bytes 0 0 ≡ 1
  pub within : length_in sector bytes ≤ max_batch
  pub whole : sector + body_size sector (length_in sector bytes) ≤ length bytes

pub has : (sector : ℕ) (bytes : List ℕ) → counts sector bytes ≡ true → Counts sector bytes
has sector bytes h =
    let p = both _ _ h in
    let q = both _ _ p.1 in
    record {
      open_gate = eqb-true (get_or bytes 0 0) 1 p.0;
      within = leb-true (length_in sector bytes) max_batch q.0;
      whole = leb-true (size_in sector bytes) (length bytes) q.1;
    }

pub has_from : (sector : ℕ) (bytes : List ℕ) → Counts sector bytes → counts sector bytes ≡ true
has_from sector bytes c =
    both_from _ _ (eq-eqb (get_or bytes 0 0) 1 c.open_gate)
    (both_from _ _ (le-leb (length_in sector bytes) max_batch c.within)
    (le-leb (size_in sector bytes) (length bytes) c.whole))

pub refuted : (sector : ℕ) (bytes : List ℕ) → (Counts sector bytes → ⊥)
    → counts sector bytes ≡ false
refuted sector bytes none = elim (cases_Bool (counts sector bytes)) [
  | inl here ↦ absurd (none (has sector bytes here))
  | inr gone ↦ gone
]

-- ---- The same fields with more bytes behind them

pub length_more : (sector : ℕ) (bytes rest : List ℕ) → sector + 8 ≤ length bytes
    → length_in sector (bytes ++ rest) ≡ length_in sector bytes
unfolding length_in
length_more sector bytes rest le =
    ap (λ (l : List ℕ). Rattle.byteorder.specs.Endian.big_number 8 l)
    (drop-append-le sector bytes rest (omega arith))
    ∙ big_from-append 8 (drop sector bytes) rest (omega (arith, length-drop sector bytes))

pub checksum_more : (sector : ℕ) (bytes rest : List ℕ) → sector + 16 ≤ length bytes
    → checksum_in sector (bytes ++ rest) ≡ checksum_in sector bytes
unfolding checksum_in
checksum_more sector bytes rest le =
    ap (λ (l : List ℕ). Rattle.byteorder.specs.Endian.big_number 8 l)
    (drop-append-le (sector + 8) bytes rest (omega arith))
    ∙ big_from-append 8 (drop (sector + 8) bytes) rest
    (omega (arith, length-drop (sector + 8) bytes))

pub records_more : (sector : ℕ) (bytes rest : List ℕ)
    → sector + 16 + length_in sector bytes ≤ length bytes
    → records_in sector (bytes ++ rest) ≡ records_in sector bytes
unfolding records_in
records_more sector bytes rest le =
    ap (λ (n : ℕ). take n (drop (sector + 16) (bytes ++ rest)))
    (length_more sector bytes rest (omega arith))
    ∙ ap (λ (l : List ℕ). take (length_in sector bytes) l)
    (drop-append-le (sector + 16) bytes rest (omega arith))
    ∙ take-append-le (length_in sector bytes) (drop (sector + 16) bytes) rest
    (omega (arith, length-drop (sector + 16) bytes))

pub counts_more : (sector : ℕ) (bytes rest : List ℕ) → Counts sector bytes
    → Counts sector (bytes ++ rest)
counts_more sector bytes rest c =
    let fits = body_fits sector (length_in sector bytes) in
    let same = length_more sector bytes rest (omega (arith, c.whole, fits)) in
    record {
      open_gate =
          get_or_append_left bytes rest 0 0 (omega (arith, c.whole, fits)) ∙ c.open_gate;
      within = omega (arith, same, c.within);
      whole =
          subst (λ (n : ℕ). sector + body_size sector n ≤ length (bytes ++ rest)) (sym same)
          (omega (arith, c.whole, length-append bytes rest));
    }

pub sound_more : (sector : ℕ) (bytes rest : List ℕ) → Counts sector bytes
    → is_sound sector (bytes ++ rest) ≡ is_sound sector bytes
sound_more sector bytes rest c =
    let fits = body_fits sector (length_in sector bytes) in
    ap (λ (l : List ℕ). eqb (checksum l) (checksum_in sector (bytes ++ rest)))
    (records_more sector bytes rest (omega (arith, c.whole, fits)))
    ∙ ap (λ (n : ℕ). eqb (checksum (records_in sector bytes)) n)
    (checksum_more sector bytes rest (omega (arith, c.whole, fits)))

-- ---- Bytes at whose front no batch counts

pub shut : (sector : ℕ) (bytes : List ℕ) → get_or bytes 0 0 ≢ 1 → counts sector bytes ≡ false
shut sector bytes closed = refuted sector bytes (λ c. closed c.open_gate)

pub short : (sector : ℕ) (bytes : List ℕ) → length bytes ≤ sector → counts sector bytes ≡ false
short sector bytes le =
    refuted sector bytes
    (λ c. let fits = body_fits sector (length_in sector bytes) in omega (arith, c.whole, fits))

-- nor does one at the front of a prefix of them
pub none_in_prefix : (sector : ℕ) (bytes : List ℕ) (n : ℕ) → counts sector bytes ≡ false
    → counts sector (take n bytes) ≡ false
none_in_prefix sector bytes n none =
    refuted sector (take n bytes) (λ c.
    let more = counts_more sector (take n bytes) (drop n bytes) c in
    let here = has_from sector bytes (subst (Counts sector) (take-append-drop n bytes) more) in
    false≢true (sym none ∙ here))
