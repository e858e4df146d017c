-- Header, block descriptor and pages of a list, checked in turn.
use Rattle.std.proofs.Common.{map}
use Rattle.std.proofs.Common.{◌≡◌, ◌≤◌, ◌<◌, ℕ, ◌+◌, List, [], ◌∷◌, ◌++◌, length, drop, take, Bool}
use Rattle.std.proofs.Common.{true, false, cond, ◌||◌, refl, sym, ap, ◌∙◌, arith, inl, inr}
use Rattle.std.specs.Prelude.{Option, Some, None, Result, Ok, Err, IfErr, nat_lt, ◌==◌}
use Rattle.std.specs.List.{flat_map}
use Rattle.std.specs.Option.{option_or, option_map}
use Rattle.std.proofs.lemmas.Bool.{lt-ltb, le-ltb, ltb-true, eqb-true, ne_eqb, cases_lt, or_cases}
use Rattle.std.proofs.lemmas.List.{length-take, take-take, append-nil}
use Rattle.sg_wire.specs.declared.profile.Profile.{Profile}
use Rattle.sg_wire.specs.declared.command.mode.CdbWidth.{CdbWidth}
use Rattle.sg_wire.specs.declared.command.mode.CdbWidth.TheVariants.{Six, Ten}
use Rattle.sg_pages.specs.declared.mode_pages.mode_select.ModeSelectFault.{ModeSelectFault}
use Rattle.sg_pages.specs.declared.mode_pages.mode_select.ModeSelectFault.TheVariants.{Field}
use Rattle.sg_pages.specs.declared.mode_pages.mode_select.ModeSelectFault.TheVariants.{Length}
use Rattle.sg_pages.specs.declared.mode_pages.mode_page.PageValues.{PageValues}
use Rattle.sg_pages.specs.BlockDescriptor.{number_length, descriptor_length, block_descriptor}
use Rattle.sg_pages.specs.BlockDescriptor.{descriptor_fields}
use Rattle.sg_pages.specs.ModeSelect.{part_at, header_length, header_in, length_offset}
use Rattle.sg_pages.specs.ModeLaws.{IsInside}
use Rattle.sg_pages.specs.ModeSelect.{block_descriptor_length, has_longlba, descriptor_in, pages_in}
use Rattle.sg_pages.specs.ModeSelect.{ignored_descriptor_bits}
use Rattle.sg_pages.specs.ModeSelect.{differences, truncation_of, part_faults, ignored_header_bits}
use Rattle.sg_pages.specs.ModeSelect.{zeros_for, is_descriptor_length, length_faults, header_faults}
use Rattle.sg_pages.specs.ModeSelect.{accepted_blocks, descriptor_faults, page_faults, list_faults}
use Rattle.sg_pages.specs.ModeSelect.{least, fault_at, first_fault, unless_fault, values_after}
use Rattle.sg_pages.specs.ModeSelect.{field_faults, pointed_fields, selected_values}
use Rattle.sg_pages.specs.MultiByteField.{first_byte_in}
use Rattle.sg_pages.proofs.FaultLemmas.{From, Below, From-append, From-weaker, Below-append}
use Rattle.sg_pages.proofs.FaultLemmas.{Below-weaker, part_faults-below}
use Rattle.sg_pages.proofs.FieldLemmas.{field_faults-from, field_faults-below}
use Rattle.sg_pages.proofs.FaultLemmas.{first_fault-append, differences-below-expected}
use Rattle.sg_pages.proofs.FaultLemmas.{differences-nil, field}
use Rattle.sg_pages.proofs.SentPagesLemmas.{pages_from-from}

or-none : {A : Type 0} (o : Option A) → o ≡ option_or o None
or-none None = refl
or-none (Some x) = refl

-- ---- The header

abbrev length_fault : (c : Bool) (offset : ℕ) → List ℕ
length_fault c offset = cond c [] (offset ∷ [])

length_fault-from : (c : Bool) (offset : ℕ) → From offset (length_fault c offset)
length_fault-from true offset = tt
length_fault-from false offset = (omega arith, tt)

length_fault-below : (c : Bool) (offset n : ℕ) → offset < n → Below n (length_fault c offset)
length_fault-below true offset n h = tt
length_fault-below false offset n h = (h, tt)

ignored_bits-length : (width : CdbWidth) → length (zeros_for (ignored_header_bits width))
    ≡ length_offset width
ignored_bits-length Six = refl
ignored_bits-length Ten = refl

offset-inside : (width : CdbWidth) → length_offset width < header_length width
offset-inside Six = omega arith
offset-inside Ten = omega arith

header-whole : (width : CdbWidth) (list : List ℕ) → header_length width ≤ length list
    → truncation_of (header_in width list) ≡ []
header-whole width list h =
    ap (λ c. cond c ((0 + length (take (header_length width) list)) ∷ []) [])
    (le-ltb (length (take (header_length width) list)) (header_length width)
    (omega (arith, length-take (header_length width) list)))

-- the part before the descriptor's length is looked at first
header-split : (width : CdbWidth) (list : List ℕ)
    → first_fault (length list) (header_faults width list)
    ≡ option_or (first_fault (length list)
    (part_faults (zeros_for (ignored_header_bits width)) (ignored_header_bits width)
    (header_in width list))) (first_fault (length list) (length_faults width list))
unfolding first_fault
header-split width list =
    let n = length list in
    let ignored = ignored_header_bits width in
    let p = header_in width list in
    let front = differences 0 (zeros_for ignored) ignored p.bytes in
    elim (cases_lt n (header_length width)) as
    (λ _. first_fault n (header_faults width list)
    ≡ option_or (first_fault n (part_faults (zeros_for ignored) ignored p))
    (first_fault n (length_faults width list))) [
      | inl short ↦
          let none : length_faults width list ≡ [] =
          ap (λ c. length_fault (c || is_descriptor_length width list) (length_offset width))
          (lt-ltb n (header_length width) short) in
          ap (λ xs. first_fault n (part_faults (zeros_for ignored) ignored p ++ xs)) none
          ∙ (ap (first_fault n) (append-nil (part_faults (zeros_for ignored) ignored p))
          ∙ (or-none (first_fault n (part_faults (zeros_for ignored) ignored p))
          ∙ ap (λ xs. option_or (first_fault n (part_faults (zeros_for ignored) ignored p))
          (first_fault n xs)) (sym none)))
      | inr whole ↦
          let uncut : part_faults (zeros_for ignored) ignored p ≡ front =
          ap (λ xs. front ++ xs) (header-whole width list whole) ∙ append-nil front in
          let below : Below (length_offset width) front =
          Below-weaker (0 + length (zeros_for ignored)) (length_offset width) front
          (omega (arith, ignored_bits-length width))
          (differences-below-expected 0 (zeros_for ignored) ignored p.bytes) in
          let at = nat_lt n (header_length width) || is_descriptor_length width list in
          ap (λ xs. first_fault n (xs ++ length_faults width list)) uncut
          ∙ (first_fault-append n (length_offset width) front (length_faults width list) below
          (length_fault-from at (length_offset width))
          ∙ ap (λ xs. option_or (first_fault n xs) (first_fault n (length_faults width list)))
          (sym uncut))
    ]

-- the same if the kind of command is known
pub header-split-at : (width known : CdbWidth) (list : List ℕ) → width ≡ known
    → first_fault (length list) (header_faults width list)
    ≡ option_or (first_fault (length list)
    (part_faults (zeros_for (ignored_header_bits known)) (ignored_header_bits known)
    (header_in known list))) (first_fault (length list) (length_faults known list))
header-split-at width known list e = ap (λ t. first_fault (length list) (header_faults t list)) e
    ∙ header-split known list

-- another length than the disk's descriptors have
pub other-length : (width : CdbWidth) (list : List ℕ) → header_length width ≤ length list
    → is_descriptor_length width list ≡ false → first_fault (length list) (length_faults width list)
    ≡ Some (Field (length_offset width))
unfolding first_fault
other-length width list whole e =
    ap (λ c. first_fault (length list)
    (length_fault (c || is_descriptor_length width list) (length_offset width)))
    (le-ltb (length list) (header_length width) whole)
    ∙ (ap (λ c. first_fault (length list) (length_fault c (length_offset width))) e
    ∙ ap Some (field (length list) (length_offset width) (omega (arith, offset-inside width))))

-- ---- The block descriptor

-- the faults of a descriptor, by the bytes of its number of blocks
abbrev against : (offset : ℕ) (blocks : Option ℕ) (profile : Profile) (list : List ℕ)
    → (long : Bool) (size : ℕ) (number : List ℕ) → List ℕ
against offset blocks profile list long size number =
    field_faults (pointed_fields profile (descriptor_fields long))
    (block_descriptor long (accepted_blocks blocks number))
    (ignored_descriptor_bits long blocks) (part_at offset size list)

pub descriptor_faults-at : (width : CdbWidth) (long : Bool) (blocks : Option ℕ) (profile : Profile)
    (size : ℕ) (list : List ℕ)
    → has_longlba width list ≡ long → block_descriptor_length width list ≡ size
    → number_length long ≤ size →
    descriptor_faults width blocks profile list
    ≡ against (header_length width) blocks profile list long size
    (take (number_length long) (drop (header_length width) list))
descriptor_faults-at width long blocks profile size list e f h =
    let rest = drop (header_length width) list in
    ap (λ l. against (header_length width) blocks profile list l (block_descriptor_length width list)
    (take (number_length l) (take (block_descriptor_length width list) rest))) e
    ∙ (ap (λ n. against (header_length width) blocks profile list long n
    (take (number_length long) (take n rest))) f
    ∙ ap (against (header_length width) blocks profile list long size)
    (take-take (number_length long) size rest h))

-- no descriptor
pub no-descriptor : (width : CdbWidth) (blocks : Option ℕ) (profile : Profile) (list : List ℕ)
    → block_descriptor_length width list ≡ 0
    → first_fault (length list) (descriptor_faults width blocks profile list) ≡ None
unfolding first_fault
no-descriptor width blocks profile list e =
    let expected = λ (sent : List ℕ). block_descriptor (has_longlba width list)
    (accepted_blocks blocks (take (number_length (has_longlba width list)) sent)) in
    let ignored = ignored_descriptor_bits (has_longlba width list) blocks in
    let fields = pointed_fields profile (descriptor_fields (has_longlba width list)) in
    let rest = drop (header_length width) list in
    ap (λ n. let bytes = take n rest in
    first_fault (length list) (field_faults fields (expected bytes) ignored
    (part_at (header_length width) n list))) e
    ∙ ap (λ xs. first_fault (length list)
    (map (first_byte_in fields (header_length width)) xs ++ []))
    (differences-nil (header_length width) (expected []) ignored)

-- the descriptor that its length announces
long-by : (n : ℕ) (long : Bool) → n ≡ descriptor_length long
    → (n ≡ 8 → long ≡ false) × ((n ≡ 8 → ⊥) → (long ≡ true) × (n ≡ 16))
long-by n true e = (λ h. absurd (omega arith), λ h. (refl, e))
long-by n false e = (λ h. refl, λ h. absurd (h e))

pub announced-long : (width : CdbWidth) (list : List ℕ) → is_descriptor_length width list ≡ true
    → (block_descriptor_length width list ≡ 0 → ⊥) → block_descriptor_length width list
    ≡ descriptor_length (has_longlba width list)
announced-long width list e h =
    let n = block_descriptor_length width list in
    elim (or_cases (n == 0) (n == descriptor_length (has_longlba width list)) e) as
    (λ _. n ≡ descriptor_length (has_longlba width list)) [
      | inl nothing ↦ absurd (h (eqb-true n 0 nothing))
      | inr same ↦ eqb-true n (descriptor_length (has_longlba width list)) same
    ]

pub announced-8 : (width : CdbWidth) (list : List ℕ) → is_descriptor_length width list ≡ true
    → block_descriptor_length width list ≡ 8 → has_longlba width list ≡ false
announced-8 width list e h = (long-by (block_descriptor_length width list) (has_longlba width list)
    (announced-long width list e (λ k. omega arith))).0 h

pub announced-16 : (width : CdbWidth) (list : List ℕ) → is_descriptor_length width list ≡ true
    → (block_descriptor_length width list ≡ 0 → ⊥) → (block_descriptor_length width list ≡ 8 → ⊥)
    → (has_longlba width list ≡ true) × (block_descriptor_length width list ≡ 16)
announced-16 width list e h k =
    (long-by (block_descriptor_length width list) (has_longlba width list)
    (announced-long width list e h)).1 k

pub short-faults : (width : CdbWidth) (blocks : Option ℕ) (profile : Profile) (list : List ℕ)
    → is_descriptor_length width list ≡ true
    → block_descriptor_length width list ≡ 8 →
    descriptor_faults width blocks profile list
    ≡ field_faults (pointed_fields profile (descriptor_fields false)) (block_descriptor false
    (accepted_blocks blocks (take 4 (drop (header_length width) list))))
    (ignored_descriptor_bits false blocks) (part_at (header_length width) 8 list)
unfolding block_descriptor
short-faults width blocks profile list e h =
    descriptor_faults-at width false blocks profile 8 list (announced-8 width list e h) h (omega arith)

pub long-faults : (width : CdbWidth) (blocks : Option ℕ) (profile : Profile) (list : List ℕ)
    → is_descriptor_length width list ≡ true
    → (block_descriptor_length width list ≡ 0 → ⊥) → (block_descriptor_length width list ≡ 8 → ⊥) →
    descriptor_faults width blocks profile list
    ≡ field_faults (pointed_fields profile (descriptor_fields true)) (block_descriptor true
    (accepted_blocks blocks (take 8 (drop (header_length width) list))))
    (ignored_descriptor_bits true blocks) (part_at (header_length width) 16 list)
unfolding block_descriptor
long-faults width blocks profile list e h k =
    let long = announced-16 width list e h k in
    descriptor_faults-at width true blocks profile 16 list long.0 long.1 (omega arith)

-- ---- The three together

header_faults-below : (width : CdbWidth) (list : List ℕ)
    → Below (header_length width) (header_faults width list)
header_faults-below width list =
    let ignored = ignored_header_bits width in
    Below-append (header_length width)
    (part_faults (zeros_for ignored) ignored (header_in width list))
    (length_faults width list)
    (Below-weaker (0 + header_length width) (header_length width) _ (omega arith)
    (part_faults-below (zeros_for ignored) ignored 0 (header_length width) list))
    (length_fault-below
    (nat_lt (length list) (header_length width) || is_descriptor_length width list)
    (length_offset width) (header_length width) (offset-inside width))

pub faults-split : (current : PageValues) (width : CdbWidth) (blocks : Option ℕ)
    (profile : Profile) (list : List ℕ)
    → first_fault (length list) (list_faults current width blocks profile list)
    ≡ option_or (first_fault (length list) (header_faults width list))
    (option_or (first_fault (length list) (descriptor_faults width blocks profile list))
    (first_fault (length list) (flat_map (page_faults profile current) (pages_in width list))))
faults-split current width blocks profile list =
    let n = length list in
    let offset = header_length width in
    let sent = descriptor_in width list in
    let expected = block_descriptor (has_longlba width list)
    (accepted_blocks blocks (take (number_length (has_longlba width list)) sent.bytes)) in
    let ignored = ignored_descriptor_bits (has_longlba width list) blocks in
    let fields = pointed_fields profile (descriptor_fields (has_longlba width list)) in
    let descriptor = descriptor_faults width blocks profile list in
    let pages = flat_map (page_faults profile current) (pages_in width list) in
    let from : From (offset + block_descriptor_length width list) pages =
    pages_from-from profile current (offset + block_descriptor_length width list) list in
    let behind : From offset (descriptor ++ pages) =
    From-append offset descriptor pages
    (field_faults-from fields expected ignored offset
    (block_descriptor_length width list) list)
    (From-weaker (offset + block_descriptor_length width list) offset pages (omega arith) from) in
    first_fault-append n offset (header_faults width list) (descriptor ++ pages)
    (header_faults-below width list) behind
    ∙ ap (option_or (first_fault n (header_faults width list)))
    (first_fault-append n (offset + block_descriptor_length width list) descriptor pages
    (field_faults-below fields expected ignored offset
    (block_descriptor_length width list) list)
    from)

-- a list that is not empty
pub selected_values-some : (current : PageValues) (width : CdbWidth) (blocks : Option ℕ)
    (profile : Profile) (list : List ℕ)
    → 0 < length list →
    unless_fault (first_fault (length list) (list_faults current width blocks profile list))
    (values_after current (pages_in width list)) ≡ selected_values current width blocks profile list
unfolding selected_values
selected_values-some current width blocks profile list h =
    sym (ap (λ c. cond c (Ok current)
    (unless_fault (first_fault (length list) (list_faults current width blocks profile list))
    (values_after current (pages_in width list)))) (ne_eqb (length list) 0 (λ e. omega arith)))

-- the header's length of the descriptor is at fault
pub header-refused : {A : Type 0} (width known : CdbWidth) (list : List ℕ) (value : A)
    → width ≡ known →
    first_fault (length list) (part_faults (zeros_for (ignored_header_bits known))
    (ignored_header_bits known) (header_in known list)) ≡ None →
    0 + header_length known ≤ length list → is_descriptor_length known list ≡ false →
    Err (Field (length_offset known))
    ≡ unless_fault (first_fault (length list) (header_faults width list)) value
header-refused width known list value e none whole other =
    sym (ap (λ o. unless_fault o value) (header-split-at width known list e
    ∙ (ap (λ o. option_or o (first_fault (length list) (length_faults known list))) none
    ∙ other-length known list (omega arith) other)))

-- ---- A byte at fault is in the list

inside-at : (n offset : ℕ) (c : Bool) → nat_lt offset n ≡ c
    → IsInside n (cond c (Field offset) Length)
inside-at n offset true h = ltb-true offset n h
inside-at n offset false h = tt

inside-of : {A : Type 0} (n : ℕ) (o : Option ℕ) (value : A)
    → IfErr (unless_fault (option_map (fault_at n) o) value) (IsInside n)
inside-of n None value = tt
inside-of n (Some offset) value = inside-at n offset (nat_lt offset n) refl

inside-or : {A : Type 0} (n : ℕ) (c : Bool) (value : A) (r : Result A ModeSelectFault)
    → IfErr r (IsInside n) → IfErr (cond c (Ok value) r) (IsInside n)
inside-or n true value r h = tt
inside-or n false value r h = h

pub selected_values-inside : (current : PageValues) (width : CdbWidth) (blocks : Option ℕ)
    (profile : Profile) (list : List ℕ)
    → IfErr (selected_values current width blocks profile list) (IsInside (length list))
unfolding selected_values first_fault
selected_values-inside current width blocks profile list =
    inside-or (length list) (length list == 0) current _
    (inside-of (length list) (least (list_faults current width blocks profile list))
    (values_after current (pages_in width list)))
