-- What is written of a batch reads back as the batch.
use Rattle.std.proofs.Common.{◌≡◌, ℕ, ◌+◌, ◌-◌, ◌^◌, ◌≤◌, ◌<◌, true, List, [], ◌∷◌, ◌++◌}
use Rattle.std.proofs.Common.{length, get_or, take, drop, replicate, refl, sym, ◌∙◌, ap, subst}
use Rattle.std.proofs.Common.{arith}
use Rattle.std.proofs.Common.{append_assoc, length-append}
use Rattle.std.proofs.lemmas.Bool.{eq-eqb}
use Rattle.std.proofs.lemmas.List.{take_at, drop_at, get_or_append_left, drop-drop}
use Rattle.std.proofs.lemmas.List.{length-replicate}
use Rattle.byteorder.specs.Endian.{big_bytes, big_number}
use Rattle.byteorder.specs.Numbers.{big_number-reads_back, length-bytes_high_first}
use Rattle.sg_journal.specs.Layout.{gate, body, body_size, max_batch, checksum}
use Rattle.sg_journal.specs.Layout.{length_in, checksum_in, records_in, size_in, is_sound}
use Rattle.sg_journal.proofs.Fields.{Counts, body_fits}
use Rattle.sg_journal.proofs.Batches.{IsFront, front_one}

pub length_gate : (sector first : ℕ) → 0 < sector → length (gate sector first) ≡ sector
unfolding gate
length_gate sector first some = omega (arith, length-replicate {A = ℕ} (sector - 1) 0)

pub first_of_gate : (sector first : ℕ) → get_or (gate sector first) 0 0 ≡ first
unfolding gate
first_of_gate sector first = refl

pub max_is : max_batch ≡ 4194304
unfolding max_batch
max_is = refl

pub max_fits : max_batch < 2 ^ 32
unfolding max_batch
max_fits = omega arith

checksum_fits : (records : List ℕ) → checksum records < 2 ^ 64
unfolding checksum
checksum_fits records = omega arith

pub length_body : (sector : ℕ) (records : List ℕ)
    → length (body sector records) ≡ body_size sector (length records)
unfolding body
length_body sector records =
    let a : List ℕ = big_bytes 8 (length records) in
    let b : List ℕ = big_bytes 8 (checksum records) in
    let z : List ℕ = replicate (body_size sector (length records) - (length records + 16)) 0 in
    omega (
      arith,
      length-append (a ++ b ++ records) z,
      length-append (a ++ b) records,
      length-append a b,
      length-bytes_high_first 8 (length records),
      length-bytes_high_first 8 (checksum records),
      length-replicate {A = ℕ} (body_size sector (length records) - (length records + 16)) 0,
      body_fits sector (length records),
    )

-- ---- The fields of a sector and a body behind it

module _ (sector : ℕ) (g records : List ℕ) (size : length g ≡ sector) (within
    : length records ≤ max_batch) where
  a : List ℕ
  a = big_bytes 8 (length records)

  b : List ℕ
  b = big_bytes 8 (checksum records)

  z : List ℕ
  z = replicate (body_size sector (length records) - (length records + 16)) 0

  parts : body sector records ≡ a ++ (b ++ (records ++ z))
  unfolding body a b z
  parts = append_assoc (a ++ b) records z ∙ append_assoc a b (records ++ z)

  long_a : length a ≡ 8
  unfolding a
  long_a = length-bytes_high_first 8 (length records)

  long_b : length b ≡ 8
  unfolding b
  long_b = length-bytes_high_first 8 (checksum records)

  pub length_is : length_in sector (g ++ body sector records) ≡ length records
  unfolding length_in a
  length_is =
      ap (big_number 8) (drop_at g (body sector records) sector size ∙ parts)
      ∙ big_number-reads_back 8 (length records) (b ++ (records ++ z)) (omega (arith, max_fits))

  behind_length : drop (sector + 8) (g ++ body sector records) ≡ b ++ (records ++ z)
  behind_length =
      sym (drop-drop 8 sector (g ++ body sector records))
      ∙ ap (drop 8) (drop_at g (body sector records) sector size ∙ parts)
      ∙ drop_at a (b ++ (records ++ z)) 8 long_a

  pub checksum_is : checksum_in sector (g ++ body sector records) ≡ checksum records
  unfolding checksum_in b
  checksum_is =
      ap (big_number 8) behind_length
      ∙ big_number-reads_back 8 (checksum records) (records ++ z) (checksum_fits records)

  behind_checksum : drop (sector + 16) (g ++ body sector records) ≡ records ++ z
  behind_checksum =
      ap (λ (n : ℕ). drop n (g ++ body sector records)) (let e : sector + 16 ≡ sector + 8 + 8 =
      omega arith in e)
      ∙ sym (drop-drop 8 (sector + 8) (g ++ body sector records)) ∙ ap (drop 8) behind_length
      ∙ drop_at b (records ++ z) 8 long_b

  pub records_are : records_in sector (g ++ body sector records) ≡ records
  unfolding records_in
  records_are =
      ap (λ (n : ℕ). take n (drop (sector + 16) (g ++ body sector records))) length_is
      ∙ ap (take (length records)) behind_checksum ∙ take_at records z (length records) refl

  pub size_is : size_in sector (g ++ body sector records) ≡ length (g ++ body sector records)
  size_is =
      ap (λ (n : ℕ). sector + body_size sector n) length_is
      ∙ omega (arith, length-append g (body sector records), length_body sector records, size)

  module _ (some : 0 < sector) (is_open : get_or g 0 0 ≡ 1) where
    counts_written : Counts sector (g ++ body sector records)
    counts_written = record {
      open_gate = get_or_append_left g (body sector records) 0 0 (omega (arith, size)) ∙ is_open;
      within = omega (arith, length_is, within);
      whole = omega (arith, size_is);
    }

    sound_written : is_sound sector (g ++ body sector records) ≡ true
    sound_written = eq-eqb _ _ (ap checksum records_are ∙ sym checksum_is)

    pub front_written : IsFront sector (g ++ body sector records) (records ∷ [])
    front_written =
        subst (λ (l : List ℕ). IsFront sector (g ++ body sector records) (l ∷ [])) records_are
        (front_one sector (g ++ body sector records) counts_written sound_written (sym size_is))
