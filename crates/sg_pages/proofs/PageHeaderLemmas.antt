-- A page that is sent: its header is checked first, and its values after it.
use Rattle.std.proofs.Common.{◌≡◌, ◌≤◌, ◌<◌, ℕ, ◌+◌, ◌-◌, List, [], ◌∷◌, ◌++◌, length, take, drop}
use Rattle.std.proofs.Common.{get_or, Bool, true, false, cond, refl, sym, ap, ◌∙◌, arith, inl, inr}
use Rattle.std.proofs.Common.{add-zero, append_assoc, length-append}
use Rattle.std.specs.Prelude.{Option, bit_and, bit_or, nat_lt, not, ◌==◌}
use Rattle.std.specs.Option.{option_or}
use Rattle.std.specs.Int.Bits.{or_zero_r}
use Rattle.std.proofs.lemmas.Bool.{eqb-true, cases_lt, lt-ltb, le-ltb}
use Rattle.std.proofs.lemmas.List.{append-nil, drop-drop, drop-take, length-drop, length-take-le}
use Rattle.std.proofs.lemmas.List.{take-append-drop, take-take, take_all, get_or-drop, get_or-take}
use Rattle.std.proofs.lemmas.Nat.{and_assoc}
use Rattle.byteorder.specs.Endian.{big_number}
use Rattle.sg_wire.specs.Bits.{bits_of, has_bit}
use Rattle.sg_wire.specs.declared.profile.Profile.{Profile}
use Rattle.sg_pages.specs.declared.mode_pages.mode_select.ModeSelectFault.{ModeSelectFault}
use Rattle.sg_pages.specs.declared.mode_pages.mode_page.ModePage.{ModePage}
use Rattle.sg_pages.specs.declared.mode_pages.mode_page.ModePage.TheVariants.{ReadWriteErrorRecovery}
use Rattle.sg_pages.specs.declared.mode_pages.mode_page.ModePage.TheVariants.{Caching, Control}
use Rattle.sg_pages.specs.declared.mode_pages.mode_page.ModePage.TheVariants.{InformationalExceptionsControl}
use Rattle.sg_pages.specs.declared.mode_pages.mode_page.ModePage.TheVariants.{LogicalBlockProvisioning}
use Rattle.sg_pages.specs.ModePage.{first_byte, page_bytes, page_header, page_header_length}
use Rattle.sg_pages.specs.ModePage.{page_length, row_of, subpage_format}
use Rattle.sg_pages.specs.ModeSelect.{differences, first_fault, ignored_page_header_bits, page_at}
use Rattle.sg_pages.specs.ModeSelect.{page_size, part_at, part_faults, sent_first}
use Rattle.sg_pages.proofs.FaultLemmas.{From, From-append, differences-append, differences-from}
use Rattle.sg_pages.proofs.FaultLemmas.{differences-below-expected, differences-nil, first_fault-append}

-- ---- A part in two pieces

-- the faults of a part, by the list's bytes from the part's offset on
abbrev pub faults_in : (offset size : ℕ) (expected ignored rest : List ℕ) → List ℕ
faults_in offset size expected ignored rest =
    differences offset expected ignored (take size rest) ++ cond
    (nat_lt (length (take size rest)) size) ((offset + length (take size rest)) ∷ []) []

-- with a fault there no later one counts
stays : (n : ℕ) (xs : List ℕ) (x : ℕ) (o : Option ModeSelectFault)
    → (let f = first_fault n (xs ++ x ∷ []) in f ≡ option_or f o)
unfolding first_fault
stays n [] x o = refl
stays n (y ∷ ys) x o = refl

same-after : (n : ℕ) (xs : List ℕ) (o p : Option ModeSelectFault) → (xs ≡ [] → o ≡ p)
    → option_or (first_fault n xs) o ≡ option_or (first_fault n xs) p
unfolding first_fault
same-after n [] o p h = h refl
same-after n (x ∷ xs) o p h = refl

-- the bytes end within the first piece
within : (offset : ℕ) (head more ignored others bytes : List ℕ) → length ignored ≡ length head
    → length bytes ≤ length head
    → differences offset (head ++ more) (ignored ++ others) bytes
    ≡ differences offset head ignored bytes
within offset [] more [] others [] same short = differences-nil offset more others
within offset [] more [] others (b ∷ bytes) same short = absurd (omega arith)
within offset [] more (i ∷ ignored) others bytes same short = absurd (omega arith)
within offset (h ∷ head) more [] others bytes same short = absurd (omega arith)
within offset (h ∷ head) more (i ∷ ignored) others [] same short = refl
within offset (h ∷ head) more (i ∷ ignored) others (b ∷ bytes) same short =
    ap (λ r. cond (bit_or b i == bit_or h i) r (offset ∷ r))
    (within (offset + 1) head more ignored others bytes (omega arith) (omega arith))

-- the end of a part, counted from its second piece on
cut-shift : (offset m size k n : ℕ) → k ≤ size → m ≡ k + n
    → cond (nat_lt m size) ((offset + m) ∷ []) []
    ≡ cond (nat_lt n (size - k)) ((offset + k + n) ∷ []) []
cut-shift offset m size k n room e =
    elim (cases_lt n (size - k)) as (λ _. cond (nat_lt m size) ((offset + m) ∷ []) []
    ≡ cond (nat_lt n (size - k)) ((offset + k + n) ∷ []) []) [
      | inl less ↦
          let far : offset + m ≡ offset + k + n = omega arith in
          ap (λ c. cond c ((offset + m) ∷ []) []) (lt-ltb m size (omega arith))
          ∙ (ap (λ p. p ∷ []) far
          ∙ sym (ap (λ c. cond c ((offset + k + n) ∷ []) []) (lt-ltb n (size - k) less)))
      | inr more ↦
          ap (λ c. cond c ((offset + m) ∷ []) []) (le-ltb m size (omega arith))
          ∙ sym (ap (λ c. cond c ((offset + k + n) ∷ []) []) (le-ltb n (size - k) more))
    ]

cut-from : (offset m n : ℕ) → From offset (cond (nat_lt m n) ((offset + m) ∷ []) [])
cut-from offset m n = go (nat_lt m n)
  where
    go : (c : Bool) → From offset (cond c ((offset + m) ∷ []) [])
    go true = (omega arith, tt)
    go false = tt

module _ (n offset size : ℕ) (head more ignored others rest : List ℕ)
    (same : length ignored ≡ length head) (room : length head ≤ size) where
  abbrev whole : List ℕ
  whole = faults_in offset size (head ++ more) (ignored ++ others) rest

  abbrev front : List ℕ
  front = faults_in offset (length head) head ignored rest

  abbrev back : ℕ → List ℕ
  back count = faults_in (offset + length head) count more others (drop (length head) rest)

  abbrev InTurn : Type 0
  InTurn =
      first_fault n whole ≡ option_or (first_fault n front) (first_fault n (back (length more)))

  ends-early : length rest < length head → InTurn
  ends-early short =
      let cut = (offset + length rest) ∷ [] in
      let d = differences offset head ignored rest in
      let wide = differences offset (head ++ more) (ignored ++ others) rest in
      let last = first_fault n (back (length more)) in
      let all : whole ≡ d ++ cut =
      ap (λ xs. differences offset (head ++ more) (ignored ++ others) xs
      ++ cond (nat_lt (length xs) size) ((offset + length xs) ∷ []) [])
      (take_all size rest (omega arith))
      ∙ (ap (λ c. wide ++ cond c cut []) (lt-ltb (length rest) size (omega arith))
      ∙ ap (λ e. e ++ cut) (within offset head more ignored others rest same (omega arith))) in
      let first : front ≡ d ++ cut =
      ap (λ xs. differences offset head ignored xs
      ++ cond (nat_lt (length xs) (length head)) ((offset + length xs) ∷ []) [])
      (take_all (length head) rest (omega arith))
      ∙ ap (λ c. d ++ cond c cut []) (lt-ltb (length rest) (length head) short) in
      ap (first_fault n) all
      ∙ (stays n d (offset + length rest) last ∙ sym (ap (λ f. option_or (first_fault n f) last) first))

  goes-on : length head ≤ length rest
      → (differences offset head ignored (take (length head) rest) ≡ []
      → size ≡ length head + length more) → InTurn
  goes-on long size-is =
      let k = length head in
      let s = size - k in
      let f = take k rest in
      let r = drop k rest in
      let b = take s r in
      let d = differences offset head ignored f in
      let last = first_fault n (back (length more)) in
      let fl : length f ≡ k = length-take-le k rest long in
      let sum : size ≡ k + s = omega arith in
      let bytes : take size rest ≡ f ++ b =
      sym (take-append-drop k (take size rest))
      ∙ (ap (λ xs. xs ++ drop k (take size rest)) (take-take k size rest room)
      ∙ (ap (λ z. f ++ drop k (take z rest)) sum ∙ ap (λ xs. f ++ xs) (drop-take k s rest))) in
      let total : length (f ++ b) ≡ k + length b = length-append f b ∙ ap (λ z. z + length b) fl in
      let later = differences (offset + k) more others b in
      let cut = cond (nat_lt (length (f ++ b)) size) ((offset + length (f ++ b)) ∷ []) [] in
      let split : whole ≡ d ++ back s =
      ap (λ xs. differences offset (head ++ more) (ignored ++ others) xs
      ++ cond (nat_lt (length xs) size) ((offset + length xs) ∷ []) []) bytes
      ∙ (ap (λ e. e ++ cut) (differences-append offset head more ignored others f b same fl)
      ∙ (append_assoc d later cut
      ∙ ap (λ e. d ++ (later ++ e)) (cut-shift offset (length (f ++ b)) size k (length b) room total))) in
      let from : From (offset + k) (back s) =
      From-append (offset + k) later (cond (nat_lt (length b) s) ((offset + k + length b) ∷ []) [])
      (differences-from (offset + k) more others b) (cut-from (offset + k) (length b) s) in
      let own : front ≡ d =
      ap (λ c. d ++ cond c ((offset + length f) ∷ []) []) (le-ltb (length f) k (omega arith))
      ∙ append-nil d in
      ap (first_fault n) split
      ∙ (first_fault-append n (offset + k) d (back s)
      (differences-below-expected offset head ignored f) from
      ∙ (same-after n d (first_fault n (back s)) last
      (λ none. let few : s ≡ length more = omega (arith, size-is none) in
      ap (λ z. first_fault n (back z)) few)
      ∙ sym (ap (λ x. option_or (first_fault n x) last) own)))

  in-turn : (length head ≤ length rest
      → differences offset head ignored (take (length head) rest) ≡ []
      → size ≡ length head + length more) → InTurn
  in-turn size-is =
      elim (cases_lt (length rest) (length head)) as (λ _. InTurn) [
        | inl short ↦ ends-early short
        | inr long ↦ goes-on long (size-is long)
      ]

-- ---- The header of a page

-- SPF of a page whose first byte is known
spf-is : (byte first : ℕ) → bits_of byte 6 0 ≡ first
    → has_bit byte subpage_format ≡ has_bit first subpage_format
spf-is byte first e =
    let same : bit_and byte 0x40 ≡ bit_and first 0x40 =
    sym (and_assoc 0x40 byte 0x7F) ∙ ap (λ b. bit_and b 0x40) e in
    ap (λ b. not (b == 0)) same

-- bytes that do not differ
equal-at : (offset h i b : ℕ) (head ignored bytes : List ℕ)
    → differences offset (h ∷ head) (i ∷ ignored) (b ∷ bytes) ≡ []
    → (bit_or b i ≡ bit_or h i) × (differences (offset + 1) head ignored bytes ≡ [])
equal-at offset h i b head ignored bytes e = by (bit_or b i == bit_or h i) refl e
  where
    by : (c : Bool) → (bit_or b i == bit_or h i) ≡ c
        → (let r = differences (offset + 1) head ignored bytes in cond c r (offset ∷ r) ≡ [])
        → (bit_or b i ≡ bit_or h i) × (differences (offset + 1) head ignored bytes ≡ [])
    by true t e = (eqb-true (bit_or b i) (bit_or h i) t, e)
    by false t e = cc

unmasked : (b h : ℕ) → bit_or b 0 ≡ bit_or h 0 → b ≡ h
unmasked b h e = sym (or_zero_r b) ∙ (e ∙ or_zero_r h)

-- the size of a page whose header does not differ, without SPF and with it
short-size : (offset h count : ℕ) (rest : List ℕ) → has_bit (get_or rest 0 0) subpage_format ≡ false
    → 2 ≤ length rest
    → differences offset (h ∷ count ∷ []) (0x80 ∷ 0x00 ∷ []) (take 2 rest) ≡ []
    → page_size rest ≡ 2 + count
short-size offset h count [] spf long e = absurd (omega arith)
short-size offset h count (x ∷ []) spf long e = absurd (omega arith)
short-size offset h count (x ∷ y ∷ rest) spf long e =
    let second = equal-at offset h 0x80 x (count ∷ []) (0x00 ∷ []) (y ∷ []) e in
    let third = equal-at (offset + 1) count 0x00 y [] [] [] second.1 in
    ap (λ c. cond c (4 + big_number 2 (drop 2 (x ∷ y ∷ rest))) (2 + y)) spf
    ∙ ap (λ k. 2 + k) (unmasked y count third.0)

long-size : (offset h sub count : ℕ) (rest : List ℕ)
    → has_bit (get_or rest 0 0) subpage_format ≡ true → 4 ≤ length rest
    → differences offset (h ∷ sub ∷ 0 ∷ count ∷ []) (0x80 ∷ 0x00 ∷ 0x00 ∷ 0x00 ∷ []) (take 4 rest) ≡ []
    → page_size rest ≡ 4 + count
long-size offset h sub count [] spf long e = absurd (omega arith)
long-size offset h sub count (x ∷ []) spf long e = absurd (omega arith)
long-size offset h sub count (x ∷ y ∷ []) spf long e = absurd (omega arith)
long-size offset h sub count (x ∷ y ∷ z ∷ []) spf long e = absurd (omega arith)
long-size offset h sub count (x ∷ y ∷ z ∷ w ∷ rest) spf long e =
    let b = equal-at offset h 0x80 x (sub ∷ 0 ∷ count ∷ []) (0x00 ∷ 0x00 ∷ 0x00 ∷ [])
    (y ∷ z ∷ w ∷ []) e in
    let c = equal-at (offset + 1) sub 0x00 y (0 ∷ count ∷ []) (0x00 ∷ 0x00 ∷ []) (z ∷ w ∷ []) b.1 in
    let d = equal-at (offset + 1 + 1) 0 0x00 z (count ∷ []) (0x00 ∷ []) (w ∷ []) c.1 in
    let last = equal-at (offset + 1 + 1 + 1) count 0x00 w [] [] [] d.1 in
    let high : z ≡ 0 = unmasked z 0 d.0 in
    let low : w ≡ count = unmasked w count last.0 in
    ap (λ c. cond c (4 + big_number 2 (drop 2 (x ∷ y ∷ z ∷ w ∷ rest))) (2 + y)) spf
    ∙ ap (λ k. 4 + k) (omega (arith, high, low))

size-of : (page : ModePage) (offset : ℕ) (rest : List ℕ)
    → bits_of (get_or rest 0 0) 6 0 ≡ first_byte page → page_header_length page ≤ length rest
    → differences offset (page_header page) (ignored_page_header_bits page)
    (take (page_header_length page) rest) ≡ []
    → page_size rest ≡ page_header_length page + page_length page
size-of ReadWriteErrorRecovery offset rest e long same =
    short-size offset 0x81 0x0A rest (spf-is (get_or rest 0 0) 0x01 e) long same
size-of Caching offset rest e long same =
    short-size offset 0x88 0x12 rest (spf-is (get_or rest 0 0) 0x08 e) long same
size-of Control offset rest e long same =
    short-size offset 0x8A 0x0A rest (spf-is (get_or rest 0 0) 0x0A e) long same
size-of InformationalExceptionsControl offset rest e long same =
    short-size offset 0x9C 0x0A rest (spf-is (get_or rest 0 0) 0x1C e) long same
size-of LogicalBlockProvisioning offset rest e long same =
    long-size offset 0xDC 0x02 0x1C rest (spf-is (get_or rest 0 0) 0x5C e) long same

-- the page has its header
pub size-some : (rest : List ℕ) → 2 ≤ page_size rest
size-some rest = go (has_bit (get_or rest 0 0) subpage_format)
  where
    go : (c : Bool) → 2 ≤ cond c (4 + big_number 2 (drop 2 rest)) (2 + get_or rest 1 0)
    go true = omega arith
    go false = omega arith

long-room : (rest : List ℕ) → has_bit (get_or rest 0 0) subpage_format ≡ true → 4 ≤ page_size rest
long-room rest spf =
    rw spf (omega arith)

room-of : (page : ModePage) (rest : List ℕ) → bits_of (get_or rest 0 0) 6 0 ≡ first_byte page
    → page_header_length page ≤ page_size rest
room-of ReadWriteErrorRecovery rest e = size-some rest
room-of Caching rest e = size-some rest
room-of Control rest e = size-some rest
room-of InformationalExceptionsControl rest e = size-some rest
room-of LogicalBlockProvisioning rest e = long-room rest (spf-is (get_or rest 0 0) 0x5C e)

pub mask-length : (page : ModePage) → length (ignored_page_header_bits page) ≡ length (page_header page)
mask-length ReadWriteErrorRecovery = refl
mask-length Caching = refl
mask-length Control = refl
mask-length InformationalExceptionsControl = refl
mask-length LogicalBlockProvisioning = refl

-- ---- A page in a list

-- the first byte of the page at an offset
pub sent_first-page_at : (offset : ℕ) (list : List ℕ) → sent_first (page_at offset list)
    ≡ bit_and (get_or list offset 0) 0x7F
sent_first-page_at offset list =
    let size = (page_at offset list).size in
    let here : get_or (take size (drop offset list)) 0 0 ≡ get_or list offset 0 =
    get_or-take size (drop offset list) 0 0 (omega (arith, size-some (drop offset list)))
    ∙ (get_or-drop offset list 0 0 ∙ ap (λ k. get_or list k 0) (add-zero offset)) in
    ap (λ byte. bit_and byte 0x7F) here

first-of : (page : ModePage) (offset : ℕ) (list : List ℕ)
    → sent_first (page_at offset list) ≡ first_byte page
    → bits_of (get_or (drop offset list) 0 0) 6 0 ≡ first_byte page
first-of page offset list e =
    ap (λ byte. bit_and byte 0x7F) (get_or-drop offset list 0 0 ∙ ap (λ k. get_or list k 0) (add-zero offset))
    ∙ (sym (sent_first-page_at offset list) ∙ e)

-- a page's faults are the faults of its header, and after them the faults of its values
pub sent_page-split : (n offset : ℕ) (page : ModePage) (values bits list : List ℕ)
    → sent_first (page_at offset list) ≡ first_byte page → length values ≡ page_length page
    → first_fault n (part_faults (page_bytes page values)
    (ignored_page_header_bits page ++ bits) (page_at offset list))
    ≡ option_or (first_fault n (part_faults (page_header page) (ignored_page_header_bits page)
    (part_at offset (page_header_length page) list)))
    (first_fault n (part_faults values bits
    (part_at (offset + page_header_length page) (length values) list)))
unfolding page_bytes
sent_page-split n offset page values bits list e len =
    let rest = drop offset list in
    let k = page_header_length page in
    let first = first-of page offset list e in
    in-turn n offset (page_size rest) (page_header page) values (ignored_page_header_bits page)
    bits rest (mask-length page) (room-of page rest first)
    (λ long same. size-of page offset rest first long same ∙ ap (λ z. k + z) (sym len))
    ∙ ap (λ r. option_or (first_fault n (part_faults (page_header page)
    (ignored_page_header_bits page) (part_at offset k list)))
    (first_fault n (faults_in (offset + k) (length values) values bits r)))
    (drop-drop k offset list)

-- a page whose header does not differ has its own size
pub sent_length : (offset : ℕ) (page : ModePage) (list : List ℕ)
    → sent_first (page_at offset list) ≡ first_byte page
    → offset + page_header_length page ≤ length list
    → differences offset (page_header page) (ignored_page_header_bits page)
    (part_at offset (page_header_length page) list).bytes ≡ []
    → (page_at offset list).size ≡ page_header_length page + page_length page
sent_length offset page list e whole same =
    size-of page offset (drop offset list) (first-of page offset list e)
    (omega (arith, length-drop offset list)) same

-- the values of a page that is sent
pub sent_values : (offset m n : ℕ) (list : List ℕ) → (page_at offset list).size ≡ m + n
    → drop m (page_at offset list).bytes ≡ take n (drop (offset + m) list)
sent_values offset m n list e =
    ap (λ k. drop m (take k (drop offset list))) e
    ∙ (drop-take m n (drop offset list) ∙ ap (take n) (drop-drop m offset list))

-- ---- The same of a header and a mask that the code reads from its tables

module _ (offset : ℕ) (page : ModePage) (list head mask : List ℕ)
    (first : sent_first (page_at offset list) ≡ first_byte page) (is-head : head ≡ page_header page)
    (is-mask : mask ≡ ignored_page_header_bits page) where
  pub read-split : (profile : Profile) (n : ℕ) (values bits : List ℕ)
      → bits ≡ (row_of page).changeable profile → length values ≡ page_length page
      → first_fault n (part_faults (page_bytes page values)
      (ignored_page_header_bits page ++ (row_of page).changeable profile) (page_at offset list))
      ≡ option_or (first_fault n (part_faults head mask (part_at offset (length head) list)))
      (first_fault n (part_faults values bits
      (part_at (offset + length head) (length values) list)))
  read-split profile n values bits is-bits len =
      rw (is-head, is-mask, is-bits)
      (sent_page-split n offset page values ((row_of page).changeable profile) list first len)

  pub read-length : offset + length head ≤ length list
      → differences offset head mask (part_at offset (length head) list).bytes ≡ []
      → (page_at offset list).size ≡ page_header_length page + page_length page
  read-length whole same =
      sent_length offset page list first (omega (arith, whole, ap length is-head))
      (sym (ap (λ m. differences offset (page_header page) m
      (part_at offset (page_header_length page) list).bytes) is-mask)
      ∙ (sym (ap (λ h. differences offset h mask (part_at offset (length h) list).bytes) is-head)
      ∙ same))
