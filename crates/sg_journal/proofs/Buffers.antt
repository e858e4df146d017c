-- What stands in the buffer of a batch.
use Rattle.std.proofs.Common.{◌≡◌, ℕ, ◌+◌, ◌-◌, ◌≤◌, ◌<◌, List, ◌++◌, length, take, drop, replicate}
use Rattle.std.proofs.Common.{true, Vec, Global}
use Rattle.std.proofs.Common.{sym, ◌∙◌, ap, arith, append_assoc, length-append, length-take}
use Rattle.std.proofs.Common.{length-drop}
use Rattle.std.proofs.lemmas.List.{take_at, drop_at, drop-append-le, drop-take}
use Rattle.std.proofs.lemmas.List.{replicate-append-replicate, take-take, length-take-le}
use Rattle.std.proofs.lemmas.List.{with_items_is}
use Rattle.std.specs.Vec.{with_items}
use Rattle.byteorder.specs.Endian.{big_bytes}
use Rattle.byteorder.specs.Numbers.{length-bytes_high_first}
use Rattle.sg_journal.specs.Layout.{gate, closed_gate, body, body_size, checksum, first_sector}
use Rattle.sg_journal.specs.Layout.{is_sector_length}
use Rattle.sg_journal.specs.Batch.{IsBuffer}
use Rattle.sg_journal.specs.declared.batch.Batch.TheInside.{Inside}
use Rattle.sg_journal.specs.declared.layout.TheConstants.{MAX_BATCH}
use Rattle.sg_journal.proofs.Fields.{body_fits}
use Rattle.sg_journal.proofs.Heads.{length_first}
use Rattle.sg_journal.proofs.Written.{length_body, length_gate}

-- a closed gate is zeros
pub closed_zeros : (sector : ℕ) → 0 < sector → closed_gate sector ≡ replicate sector 0
unfolding gate
closed_zeros sector some =
    let e : sector ≡ Prim.Native.Nat.suc (sector - 1) = omega arith in
    sym (ap (λ (n : ℕ). replicate n 0) e)

-- ---- More records

pub put_length : (at : ℕ) (b bytes : List ℕ) → at + length bytes ≤ length b
    → length (take at b ++ bytes ++ drop (at + length bytes) b) ≡ length b
put_length at b bytes fits =
    omega (
      arith,
      length-append (take at b ++ bytes) (drop (at + length bytes) b),
      length-append (take at b) bytes,
      length-take at b,
      length-drop (at + length bytes) b,
    )

pub pushed : (len : ℕ) (b bytes : List ℕ) → 16 + len + length bytes ≤ length b
    → take (len + length bytes) (drop 16
    (take (16 + len) b ++ bytes ++ drop (16 + len + length bytes) b))
    ≡ take len (drop 16 b) ++ bytes
pushed len b bytes fits =
    let d : List ℕ = drop (16 + len + length bytes) b in
    let front : length (take (16 + len) b) ≡ 16 + len = length-take-le (16 + len) b (omega arith) in
    let size : length (take len (drop 16 b)) ≡ len =
    length-take-le len (drop 16 b) (omega (arith, length-drop 16 b)) in
    ap (λ (l : List ℕ). take (len + length bytes) (drop 16 l))
    (append_assoc (take (16 + len) b) bytes d)
    ∙ ap (take (len + length bytes))
    (drop-append-le 16 (take (16 + len) b) (bytes ++ d) (omega (arith, front)))
    ∙ ap (λ (l : List ℕ). take (len + length bytes) (l ++ (bytes ++ d))) (drop-take 16 len b)
    ∙ ap (take (len + length bytes)) (sym (append_assoc (take len (drop 16 b)) bytes d))
    ∙ take_at (take len (drop 16 b) ++ bytes) d (len + length bytes)
    (omega (arith, size, length-append (take len (drop 16 b)) bytes))

-- ---- A body that is completed

regroup : (a b c d e : List ℕ) → a ++ (b ++ ((c ++ d) ++ e)) ≡ ((a ++ b ++ c) ++ d) ++ e
regroup a b c d e = simp append_assoc

module _ (sector len size : ℕ) (b fields zeroed : List ℕ) (some : 0 < sector)
    (is_size : size ≡ body_size sector len) (room : size + sector ≤ length b)
    (is_fields : fields ≡ big_bytes 8 len ++ big_bytes 8 (checksum (take len (drop 16 b))))
    (is_zeroed : zeroed ≡ take (16 + len) b ++ replicate (size + sector - (16 + len)) 0 ++ drop
    (size + sector) b)
  where
    fits : len + 16 ≤ size
    fits = omega (arith, is_size, body_fits sector len)

    records : List ℕ
    records = take len (drop 16 b)

    long : length records ≡ len
    unfolding records
    long = length-take-le len (drop 16 b) (omega (arith, fits, room, length-drop 16 b))

    zeros : List ℕ
    zeros = replicate (size + sector - (16 + len)) 0

    behind : drop 16 zeroed ≡ records ++ (zeros ++ drop (size + sector) b)
    unfolding records zeros
    behind =
        let z : List ℕ = replicate (size + sector - (16 + len)) 0 in
        let d : List ℕ = drop (size + sector) b in
        let front : length (take (16 + len) b) ≡ 16 + len =
        length-take-le (16 + len) b (omega (arith, fits, room)) in
        ap (drop 16) (is_zeroed ∙ append_assoc (take (16 + len) b) z d)
        ∙ drop-append-le 16 (take (16 + len) b) (z ++ d) (omega (arith, front))
        ∙ ap (λ (l : List ℕ). l ++ (z ++ d)) (drop-take 16 len b)

    length_fields : length fields ≡ 16
    length_fields =
        let c = checksum (take len (drop 16 b)) in
        omega (
          arith,
          ap length is_fields,
          length-append (big_bytes 8 len) (big_bytes 8 c),
          length-bytes_high_first 8 len,
          length-bytes_high_first 8 c,
        )

    pub sealed_keeps : take len (drop 16 (fields ++ drop 16 zeroed)) ≡ take len (drop 16 b)
    unfolding records
    sealed_keeps =
        ap (take len) (drop_at fields (drop 16 zeroed) 16 length_fields ∙ behind)
        ∙ take_at records (zeros ++ drop (size + sector) b) len long

    zeros_are : zeros ≡ replicate (size - (len + 16)) 0 ++ closed_gate sector
    unfolding zeros
    zeros_are =
        let e : size + sector - (16 + len) ≡ size - (len + 16) + sector = omega (arith, fits) in
        ap (λ (n : ℕ). replicate n 0) e
        ∙ sym (replicate-append-replicate (size - (len + 16)) sector 0)
        ∙ ap (λ (l : List ℕ). replicate (size - (len + 16)) 0 ++ l) (sym (closed_zeros sector some))

    body_is : body sector records ≡ fields ++ records ++ replicate (size - (len + 16)) 0
    unfolding body records
    body_is =
        let r = take len (drop 16 b) in
        ap (λ (n : ℕ). big_bytes 8 n ++ big_bytes 8 (checksum r) ++ r ++ replicate
        (body_size sector n - (n + 16)) 0) long
        ∙ ap (λ (n : ℕ). big_bytes 8 len ++ big_bytes 8 (checksum r) ++ r ++ replicate
        (n - (len + 16)) 0) (sym is_size)
        ∙ ap (λ (l : List ℕ). l ++ r ++ replicate (size - (len + 16)) 0) (sym is_fields)

    pub sealed_is : take (size + sector) (fields ++ drop 16 zeroed) ≡ body sector
        (take len (drop 16 b)) ++ closed_gate sector
    unfolding records
    sealed_is =
        let z : List ℕ = replicate (size - (len + 16)) 0 in
        let d : List ℕ = drop (size + sector) b in
        let all : fields ++ drop 16 zeroed ≡
        (body sector (take len (drop 16 b)) ++ closed_gate sector) ++ d =
        ap (λ (l : List ℕ). fields ++ l) (behind
        ∙ ap (λ (l : List ℕ). records ++ (l ++ d)) zeros_are)
        ∙ regroup fields records z (closed_gate sector) d
        ∙ ap (λ (l : List ℕ). (l ++ closed_gate sector) ++ d) (sym body_is) in
        ap (take (size + sector)) all
        ∙ take_at (body sector (take len (drop 16 b)) ++ closed_gate sector) d (size + sector)
        (omega (
          arith,
          length-append (body sector (take len (drop 16 b))) (closed_gate sector),
          length_body sector (take len (drop 16 b)),
          ap (body_size sector) long,
          is_size,
          length_gate sector 0 some,
        ))

-- ---- Zeros after it

pub padded_front : (size total : ℕ) (b zeros : List ℕ) → size ≤ length b
    → take size (take size b ++ zeros ++ drop total b) ≡ take size b
padded_front size total b zeros fits =
    ap (take size) (append_assoc (take size b) zeros (drop total b))
    ∙ take_at (take size b) (zeros ++ drop total b) size (length-take-le size b fits)

-- the records are before the place from which on two buffers differ
pub kept_front : (len n : ℕ) (a b : List ℕ) → 16 + len ≤ n → take n a ≡ take n b
    → take len (drop 16 a) ≡ take len (drop 16 b)
kept_front len n a b le same =
    let k : ℕ = n - 16 in
    let is : n ≡ 16 + k = omega arith in
    let part : (l : List ℕ) → take len (drop 16 l) ≡ take len (drop 16 (take n l)) =
    λ l. sym (take-take len k (drop 16 l) (omega arith))
    ∙ ap (take len) (sym (drop-take 16 k l)) ∙ ap (λ (m : ℕ). take len (drop 16 (take m l))) (sym is)
    in
    part a ∙ ap (λ (l : List ℕ). take len (drop 16 l)) same ∙ sym (part b)

-- ---- The gate's sector

pub gate_is : (v : Vec ℕ Global) (before written : List ℕ) (sector first : ℕ) → before ≡ v.items
    → written ≡ gate (length before) first → length v.items ≡ sector → 0 < sector
    → (with_items v written).items ≡ gate sector first
gate_is v before written sector first was is size some =
    let e : written ≡ gate sector first = is
    ∙ ap (λ (n : ℕ). gate n first) (ap length was ∙ size) in
    with_items_is v written (ap length e ∙ length_gate sector first some
    ∙ omega (arith, size, v.ok)) ∙ e

pub first_is : (v : Vec ℕ Global) (before written : List ℕ) (sector : ℕ) → before ≡ v.items
    → written ≡ first_sector (length before) → length v.items ≡ sector
    → is_sector_length sector ≡ true
    → (with_items v written).items ≡ first_sector sector
first_is v before written sector was is size valid =
    let e : written ≡ first_sector sector = is ∙ ap first_sector (ap length was ∙ size) in
    with_items_is v written (ap length e ∙ length_first sector valid ∙ omega (arith, size, v.ok))
    ∙ e

-- ---- The body

pub body_is_sealed : (v : Vec ℕ Global) (before sealed records : List ℕ) (sector len size : ℕ)
    → before ≡ v.items
    → length sealed ≡ length before
    → take size sealed ≡ body sector (take len (drop 16 before)) ++ closed_gate sector
    → take len (drop 16 v.items) ≡ records
    → take size (with_items v sealed).items ≡ body sector records ++ closed_gate sector
body_is_sealed v before sealed records sector len size was same is held =
    ap (take size) (with_items_is v sealed (same ∙ ap length was ∙ omega (arith, v.ok)))
    ∙ is ∙ ap (λ (l : List ℕ). body sector (take len (drop 16 l)) ++ closed_gate sector) was
    ∙ ap (λ (l : List ℕ). body sector l ++ closed_gate sector) held

pub held_length : (len : ℕ) (b records : List ℕ) → take len (drop 16 b) ≡ records
    → 16 + len ≤ length b
    → length records ≡ len
held_length len b records is fits =
    sym (ap length is) ∙ length-take-le len (drop 16 b) (omega (arith, length-drop 16 b))

-- the body without the closed gate
pub body_only : (image records : List ℕ) (sector size : ℕ)
    → take size image ≡ body sector records ++ closed_gate sector
    → size ≡ body_size sector (length records) + sector
    → take (size - sector) image ≡ body sector records
body_only image records sector size is total =
    sym (take-take (size - sector) size image (omega arith)) ∙ ap (take (size - sector)) is
    ∙ take_at (body sector records) (closed_gate sector) (size - sector)
    (omega (arith, length_body sector records, total))

-- ---- A buffer that was written is a buffer

same_size : (v : Vec ℕ Global) (before written : List ℕ) → before ≡ v.items
    → length written ≡ length before
    → length (with_items v written).items ≡ length v.items
same_size v before written was same =
    ap length (with_items_is v written (same ∙ ap length was ∙ omega (arith, v.ok))) ∙ same
    ∙ ap length was

pub still_buffer : (b : Inside) (gate_before gate_written body_before body_written : List ℕ)
    (len : ℕ)
    → IsBuffer b → gate_before ≡ b.gate.items → length gate_written ≡ length gate_before
    → body_before ≡ b.body.items → length body_written ≡ length body_before → len ≤ MAX_BATCH
    → IsBuffer (record {
      gate = with_items b.gate gate_written;
      body =
          with_items b.body body_written;
      len = len;
    })
still_buffer b gate_before gate_written body_before body_written len is gate_was gate_same body_was
    body_same within =
    let g = same_size b.gate gate_before gate_written gate_was gate_same in
    let d = same_size b.body body_before body_written body_was body_same in
    record {
      valid = ap is_sector_length g ∙ is.valid;
      least = omega (arith, g, is.least);
      most = omega (arith, g, is.most);
      room = omega (arith, g, d, is.room);
      within = within;
    }
