-- A batch that was read: the sector of its gate, and its body at the front of a buffer.
use Rattle.std.proofs.Common.{◌≡◌, ℕ, ◌+◌, ◌-◌, ◌≤◌, ◌<◌, true, false, eqb, List, [], ◌∷◌, ◌++◌}
use Rattle.std.proofs.Common.{length, get_or}
use Rattle.std.proofs.Common.{take, drop, sym, ◌∙◌, ap, subst, arith, length-append, length-drop}
use Rattle.std.proofs.Common.{append_assoc, take-append-drop}
use Rattle.std.specs.Prelude.{Err}
use Rattle.std.proofs.lemmas.List.{drop_at, drop-append-le, take-take, drop-take, drop-drop}
use Rattle.std.proofs.lemmas.List.{length-take-le, get_or_append_left}
use Rattle.byteorder.specs.Endian.{big_number}
use Rattle.byteorder.specs.Numbers.{big_from-append}
use Rattle.sg_journal.specs.Layout.{body_size, checksum, max_batch, is_sound, length_in}
use Rattle.sg_journal.specs.Layout.{checksum_in, records_in, size_in}
use Rattle.sg_journal.specs.Journal.{found, IsHead}
use Rattle.sg_journal.specs.declared.fault.Fault.TheVariants.{Damaged}
use Rattle.sg_journal.proofs.Fields.{Counts, has_from, body_fits, counts_more, sound_more}
use Rattle.sg_journal.proofs.Batches.{front_one, head_append, head_damaged}

module _ (sector len : ℕ) (g b : List ℕ) (some : 0 < sector) (size : length g ≡ sector)
    (is_open : get_or g 0 0 ≡ 1)
    (is : len ≡ big_number 8 b) (within : len ≤ max_batch) (room : body_size sector len ≤ length b)
  where
    abbrev pub front : List ℕ
    front = take (body_size sector len) b

    fits : len + 16 ≤ body_size sector len
    fits = body_fits sector len

    long : length front ≡ body_size sector len
    long = length-take-le (body_size sector len) b room

    -- a field in the front is the same in all of the buffer
    same_field : (n : ℕ) → n + 8 ≤ 16 → big_number 8 (drop n front) ≡ big_number 8 (drop n b)
    same_field n le =
        let e : drop n b ≡ drop n front ++ drop (body_size sector len) b =
        ap (drop n) (sym (take-append-drop (body_size sector len) b))
        ∙ drop-append-le n front (drop (body_size sector len) b) (omega (arith, long, fits)) in
        sym (ap (big_number 8) e
        ∙ big_from-append 8 (drop n front) (drop (body_size sector len) b)
        (omega (arith, length-drop n front, long, fits)))

    read_length : length_in sector (g ++ front) ≡ len
    unfolding length_in
    read_length = ap (big_number 8) (drop_at g front sector size) ∙ same_field 0 (omega arith)
        ∙ sym is

    behind : (n : ℕ) → drop (sector + n) (g ++ front) ≡ drop n front
    behind n = sym (drop-drop n sector (g ++ front)) ∙ ap (drop n) (drop_at g front sector size)

    read_checksum : checksum_in sector (g ++ front) ≡ big_number 8 (drop 8 b)
    unfolding checksum_in
    read_checksum = ap (big_number 8) (behind 8) ∙ same_field 8 (omega arith)

    pub read_records : records_in sector (g ++ front) ≡ take len (drop 16 b)
    unfolding records_in
    read_records =
        let e : body_size sector len ≡ 16 + (body_size sector len - 16) = omega (arith, fits) in
        ap (λ (n : ℕ). take n (drop (sector + 16) (g ++ front))) read_length
        ∙ ap (take len) (behind 16 ∙ ap (λ (n : ℕ). drop 16 (take n b)) e
        ∙ drop-take 16 (body_size sector len - 16) b)
        ∙ take-take len (body_size sector len - 16) (drop 16 b) (omega (arith, fits))

    read_size : size_in sector (g ++ front) ≡ length (g ++ front)
    read_size =
        ap (λ (n : ℕ). sector + body_size sector n) read_length
        ∙ omega (arith, length-append g front, size, long)

    read_counts : Counts sector (g ++ front)
    read_counts = record {
      open_gate = get_or_append_left g front 0 0 (omega (arith, size)) ∙ is_open;
      within = omega (arith, read_length, within);
      whole = omega (arith, read_size);
    }

    read_sound : is_sound sector (g ++ front) ≡ eqb (checksum (take len (drop 16 b)))
        (big_number 8 (drop 8 b))
    read_sound =
        ap (λ (l : List ℕ). eqb (checksum l) (checksum_in sector (g ++ front))) read_records
        ∙ ap (eqb (checksum (take len (drop 16 b)))) read_checksum

    module _ (head : List ℕ) (bs : List (List ℕ)) (whole : IsHead sector head bs) where
      pub head_read : eqb (checksum (take len (drop 16 b))) (big_number 8 (drop 8 b)) ≡ true
          → IsHead sector ((head ++ g) ++ front) (bs ++ take len (drop 16 b) ∷ [])
      head_read sound =
          subst (λ (l : List ℕ). IsHead sector l (bs ++ take len (drop 16 b) ∷ []))
          (sym (append_assoc head g front))
          (subst (λ (l : List ℕ). IsHead sector (head ++ (g ++ front)) (bs ++ l ∷ [])) read_records
          (head_append sector head (g ++ front) bs (records_in sector (g ++ front) ∷ []) whole
          (front_one sector (g ++ front) read_counts (read_sound ∙ sound) (sym read_size))))

      pub damage_read : eqb (checksum (take len (drop 16 b))) (big_number 8 (drop 8 b)) ≡ false
          → (rest : List ℕ) → found (((head ++ g) ++ front) ++ rest) ≡ Err (Damaged (length head))
      damage_read bad rest =
          ap found (ap (λ (l : List ℕ). l ++ rest) (append_assoc head g front)
          ∙ append_assoc head (g ++ front) rest)
          ∙ head_damaged sector head ((g ++ front) ++ rest) bs whole
          (has_from sector ((g ++ front) ++ rest) (counts_more sector (g ++ front) rest read_counts))
          (sound_more sector (g ++ front) rest read_counts ∙ read_sound ∙ bad)
