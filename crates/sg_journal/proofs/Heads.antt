-- What the first sector of a file says.
use Rattle.std.proofs.Common.{◌≡◌, ℕ, ◌+◌, ◌-◌, ◌≤◌, ◌<◌, Bool, true, false, cond, not, ◌||◌}
use Rattle.std.proofs.Common.{eqb, ltb, nat_eq, List, [], ◌++◌, length, take, drop, replicate}
use Rattle.std.proofs.Common.{refl, sym, ◌∙◌, ap, subst, arith, append_assoc, length-append}
use Rattle.std.specs.Prelude.{Result, Ok, Err}
use Rattle.std.proofs.lemmas.Bool.{false≢true, leb-true}
use Rattle.std.proofs.lemmas.Bool.Decides.{nat_tests}
use Rattle.std.proofs.lemmas.List.{append-nil, take_at, drop_at, length-replicate}
use Rattle.byteorder.specs.Endian.{big_bytes, big_number}
use Rattle.byteorder.specs.Numbers.{big_number-reads_back}
use Rattle.std.specs.List.{starts_with}
use Rattle.sg_journal.specs.Layout.{magic, format_version, version_in, sector_in, header}
use Rattle.sg_journal.specs.Layout.{first_sector, sector_of, is_sector_length}
use Rattle.sg_journal.specs.Journal.{after, batches, found, found_behind, IsHead}
use Rattle.sg_journal.specs.declared.fault.Fault.{Fault}
use Rattle.sg_journal.specs.declared.fault.Fault.TheVariants.{NotADisk, OtherVersion, Damaged}
use Rattle.sg_journal.proofs.Fields.{both}
use Rattle.sg_journal.proofs.Batches.{after_none}

-- ---- The lengths of sectors

pub sector_within : (n : ℕ) → is_sector_length n ≡ true → (512 ≤ n) × (n ≤ 65536)
unfolding is_sector_length
sector_within n h =
    let p = both _ _ (both _ _ h).0 in
    (leb-true 512 n p.0, leb-true n 65536 p.1)

-- ---- A file whose first bytes are a header

-- what is found of a file that is not empty, by what its first 16 bytes say
pub found_by : (file : List ℕ) (r : Result ℕ Fault) → 0 < length file → sector_of (take 16 file) ≡ r
    → found file ≡ found_behind file r
unfolding found
found_by file r some is =
    let none : eqb (length file) 0 ≡ false = grind (arith, nat_tests) in
    ap (λ (t : Bool). cond t (Ok []) (found_behind file (sector_of (take 16 file)))) none
    ∙ ap (found_behind file) is

pub bad_header : (file : List ℕ) (fault : Fault) → 0 < length file
    → sector_of (take 16 file) ≡ Err fault
    → found file ≡ Err fault
bad_header file fault some is = found_by file (Err fault) some is

pub short_first : (file : List ℕ) (sector : ℕ) → 0 < length file
    → sector_of (take 16 file) ≡ Ok sector
    → length file < sector → found file ≡ Err NotADisk
short_first file sector some is short =
    let e : ltb (length file) sector ≡ true = grind (arith, nat_tests) in
    found_by file (Ok sector) some is
    ∙ ap (λ (t : Bool). cond t (Err NotADisk) (batches sector sector (drop sector file))) e

-- a whole first sector
pub header_head : (sector : ℕ) (header more : List ℕ) → length header ≡ 16
    → sector_of header ≡ Ok sector
    → length (header ++ more) ≡ sector → IsHead sector (header ++ more) []
header_head sector header more sixteen is size = record { stands = each }
  where
    each : (rest : List ℕ) → found ((header ++ more) ++ rest) ≡ after []
        (batches sector (length (header ++ more)) rest)
    each rest =
        let all : length ((header ++ more) ++ rest) ≡ sector + length rest =
        omega (arith, length-append (header ++ more) rest, size) in
        let few : length (header ++ more) ≡ 16 + length more =
        omega (arith, length-append header more, sixteen) in
        let front : take 16 ((header ++ more) ++ rest) ≡ header =
        ap (take 16) (append_assoc header more rest)
        ∙ take_at header (more ++ rest) 16 sixteen in
        let e : ltb (length ((header ++ more) ++ rest)) sector ≡ false = grind (arith, nat_tests) in
        found_by ((header ++ more) ++ rest) (Ok sector) (omega arith) (ap sector_of front ∙ is)
        ∙ ap (λ (t : Bool). cond t (Err NotADisk)
        (batches sector sector (drop sector ((header ++ more) ++ rest)))) e
        ∙ ap (batches sector sector) (drop_at (header ++ more) rest sector size)
        ∙ ap (λ (n : ℕ). batches sector n rest) (sym size)
        ∙ sym (after_none (batches sector (length (header ++ more)) rest))

-- ---- The first sector that is written

length_header : (sector : ℕ) → length (header sector) ≡ 16
unfolding header
length_header sector = refl

header_reads : (sector : ℕ) → is_sector_length sector ≡ true → sector_of (header sector) ≡ Ok sector
unfolding header sector_of
header_reads sector valid =
    let within = sector_within sector valid in
    let e : big_number 4 (big_bytes 4 sector) ≡ sector =
    ap (big_number 4) (sym (append-nil (big_bytes 4 sector)))
    ∙ big_number-reads_back 4 sector [] (omega arith) in
    subst (λ (n : ℕ). cond (not (is_sector_length n)) (Err (Damaged 12)) (Ok n) ≡ Ok sector) (sym e)
    (ap (λ (t : Bool). cond (not t) (Err (Damaged 12)) (Ok sector)) valid)

pub first_head : (sector : ℕ) → is_sector_length sector ≡ true
    → IsHead sector (first_sector sector) []
unfolding first_sector
first_head sector valid =
    let within = sector_within sector valid in
    header_head sector (header sector) (replicate (sector - 16) 0) (length_header sector)
    (header_reads sector valid)
    (omega (
      arith,
      length-append (header sector) (replicate (sector - 16) 0),
      length_header sector,
      length-replicate {A = ℕ} (sector - 16) 0,
    ))

pub length_first : (sector : ℕ) → is_sector_length sector ≡ true
    → length (first_sector sector) ≡ sector
unfolding first_sector
length_first sector valid =
    let within = sector_within sector valid in
    omega (
      arith,
      length-append (header sector) (replicate (sector - 16) 0),
      length_header sector,
      length-replicate {A = ℕ} (sector - 16) 0,
    )

-- ---- What a header says

picked : (a b c : Bool) (x y z : Fault) (n s : ℕ)
    → cond a (Err x) (cond b (Err y) (cond c (Err z) (Ok n))) ≡ Ok s → (c ≡ false) × (n ≡ s)
picked true b c x y z n s h = absurd (cc)
picked false true c x y z n s h = absurd (cc)
picked false false true x y z n s h = absurd (cc)
picked false false false x y z n s h = (refl, cc)

pub header_valid : (header : List ℕ) (sector : ℕ) → sector_of header ≡ Ok sector
    → is_sector_length sector ≡ true
unfolding sector_of
header_valid header sector is =
    let p = picked (ltb (length header) 16 || not (starts_with nat_eq header magic))
    (not (eqb (version_in header) format_version)) (not (is_sector_length (sector_in header)))
    NotADisk (OtherVersion (version_in header)) (Damaged 12) (sector_in header) sector is in
    ap is_sector_length (sym p.1) ∙ not_false (is_sector_length (sector_in header)) p.0
  where
    not_false : (b : Bool) → not b ≡ false → b ≡ true
    not_false true h = refl
    not_false false h = absurd (false≢true (sym h))

pub short_header : (header : List ℕ) → length header < 16 → sector_of header ≡ Err NotADisk
unfolding sector_of
short_header header short =
    let e : ltb (length header) 16 ≡ true = grind (arith, nat_tests) in
    ap (λ (t : Bool). cond (t || not (starts_with nat_eq header magic)) (Err NotADisk)
    (cond (not (eqb (version_in header) format_version)) (Err (OtherVersion (version_in header)))
    (cond (not (is_sector_length (sector_in header))) (Err (Damaged 12)) (Ok (sector_in header)))))
    e

pub found_nothing : found [] ≡ Ok []
unfolding found
found_nothing = refl

pub new_sector : is_sector_length 4096 ≡ true
unfolding is_sector_length lib.Count.ones
new_sector = refl
