-- A file of whole batches.
use Rattle.std.proofs.Common.{◌≡◌, ℕ, ◌+◌, ◌≤◌, ◌<◌, true, false, List, [], ◌∷◌, ◌++◌, length, take}
use Rattle.std.proofs.Common.{drop}
use Rattle.std.proofs.Common.{sym, ◌∙◌, ap, arith, append_assoc, length-append, length-take}
use Rattle.std.proofs.Common.{take-append-drop}
use Rattle.std.specs.Prelude.{Ok, Err}
use Rattle.std.specs.List.{All, flat_map}
use Rattle.sg_journal.specs.Layout.{open_gate, whole_batch, closed_gate, counts, length_in}
use Rattle.sg_journal.specs.Layout.{first_sector, body_size, is_sound, max_batch}
use Rattle.sg_journal.specs.Journal.{after, batches, found, IsHead}
use Rattle.sg_journal.specs.Laws.{written, IsWritable}
use Rattle.sg_journal.specs.declared.fault.Fault.TheVariants.{Damaged}
use Rattle.sg_journal.proofs.Fields.{refuted, length_more, body_fits}
use Rattle.sg_journal.proofs.Batches.{IsFront, after_none, after_both, head_append, head_ends}
use Rattle.sg_journal.proofs.Batches.{head_only}
use Rattle.sg_journal.proofs.Batches.{head_damaged}
use Rattle.sg_journal.proofs.Written.{first_of_gate, front_written, length_gate, length_is, size_is}
use Rattle.sg_journal.proofs.Heads.{first_head, sector_within}
use Rattle.sg_journal.proofs.Ends.{shut_behind, closed_first}

front_none : (sector : ℕ) → IsFront sector [] []
front_none sector = record {
  stands = λ offset rest.
      let e : offset ≡ offset + 0 = omega arith in
      ap (λ (n : ℕ). batches sector n rest) e ∙ sym (after_none (batches sector (offset + 0) rest));
}

front_append : (sector : ℕ) (a b : List ℕ) (bs cs : List (List ℕ)) → IsFront sector a bs
    → IsFront sector b cs → IsFront sector (a ++ b) (bs ++ cs)
front_append sector a b bs cs h k = record {
  stands = λ offset rest.
      let e : offset + length a + length b ≡ offset + length (a ++ b) =
      omega (arith, length-append a b) in
      ap (batches sector offset) (append_assoc a b rest) ∙ h.stands offset (b ++ rest)
      ∙ ap (after bs) (k.stands (offset + length a) rest)
      ∙ after_both bs cs (batches sector (offset + length a + length b) rest)
      ∙ ap (λ (n : ℕ). after (bs ++ cs) (batches sector n rest)) e;
}

fronts : (sector : ℕ) (bs : List (List ℕ)) → 0 < sector
    → All (λ records. length records ≤ max_batch) bs
    → IsFront sector (flat_map (whole_batch sector) bs) bs
fronts sector [] some within = front_none sector
fronts sector (records ∷ bs) some within =
    front_append sector (whole_batch sector records) (flat_map (whole_batch sector) bs)
    (records ∷ []) bs
    (front_written sector (open_gate sector) records (length_gate sector 1 some) (within
    0 records (omega arith)) some
    (first_of_gate sector 1))
    (fronts sector bs some (λ k d less. within (Prim.Native.Nat.suc k) d (omega arith)))

some_sector : (sector : ℕ) (bs : List (List ℕ)) → IsWritable sector bs → 0 < sector
some_sector sector bs w = let p = sector_within sector w.valid in omega arith

whole_head : (sector : ℕ) (bs : List (List ℕ)) → IsWritable sector bs
    → IsHead sector (written sector bs) bs
whole_head sector bs w =
    head_append sector (first_sector sector) (flat_map (whole_batch sector) bs) [] bs
    (first_head sector w.valid) (fronts sector bs (some_sector sector bs w) w.within)

pub batches_found : (sector : ℕ) (bs : List (List ℕ)) → IsWritable sector bs
    → found (written sector bs) ≡ Ok bs
batches_found sector bs w = head_only sector (written sector bs) bs (whole_head sector bs w)

pub gate_hides : (sector : ℕ) (bs : List (List ℕ)) → IsWritable sector bs → (rest : List ℕ)
    → found (written sector bs ++ (closed_gate sector ++ rest)) ≡ Ok bs
gate_hides sector bs w rest =
    let some = some_sector sector bs w in
    head_ends sector (written sector bs) (closed_gate sector ++ rest) bs (whole_head sector bs w)
    (shut_behind sector (closed_gate sector) rest (length_gate sector 0 some) some
    (closed_first sector))

not_cut : (sector n : ℕ) (records : List ℕ) → 0 < sector → length records ≤ max_batch
    → n < length (whole_batch sector records)
    → counts sector (take n (whole_batch sector records)) ≡ false
not_cut sector n records some within short =
    let w = whole_batch sector records in
    let front = take n w in
    refuted sector front (λ c.
    let fits = body_fits sector (length_in sector front) in
    let same : length_in sector w ≡ length_in sector front =
    sym (ap (length_in sector) (take-append-drop n w))
    ∙ length_more sector front (drop n w) (omega (arith, c.whole, fits)) in
    let is = length_is sector (open_gate sector) records (length_gate sector 1 some) within in
    let size = size_is sector (open_gate sector) records (length_gate sector 1 some) within in
    omega (arith, c.whole, length-take n w, size, short, ap (body_size sector) same))

pub cut_off : (sector : ℕ) (bs : List (List ℕ)) → IsWritable sector bs → (records : List ℕ)
    → length records ≤ max_batch → (n : ℕ) → n < length (whole_batch sector records)
    → found (written sector bs ++ take n (whole_batch sector records)) ≡ Ok bs
cut_off sector bs w records within n short =
    head_ends sector (written sector bs) (take n (whole_batch sector records)) bs
    (whole_head sector bs w)
    (not_cut sector n records (some_sector sector bs w) within short)

pub damage_found : (sector : ℕ) (bs : List (List ℕ)) → IsWritable sector bs → (bytes : List ℕ)
    → counts sector bytes ≡ true → is_sound sector bytes ≡ false
    → found (written sector bs ++ bytes) ≡ Err (Damaged (length (written sector bs)))
damage_found sector bs w bytes here bad =
    head_damaged sector (written sector bs) bytes bs (whole_head sector bs w) here bad
