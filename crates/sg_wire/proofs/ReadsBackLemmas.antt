-- The CDB of each command decodes to the command again. The places of a row's fields do not
-- overlap, and they lie in the row's masks: both compute. So each field has its own bits of the
-- CDB.
use Rattle.std.proofs.Common.{◌≡◌, ◌<◌, ◌≤◌, ℕ, zero, suc, ◌+◌, ◌-◌, ◌*◌, ◌/◌, ◌^◌, ◌%◌, ◌==◌, List}
use Rattle.std.proofs.Common.{[], ◌∷◌, ◌++◌, map, Bool, true, false, Ok, None, ⊎_elim, eq-eqb, refl}
use Rattle.std.proofs.Common.{sym, ap, ◌∙◌, min, max, drop, arith}
use Rattle.std.specs.Int.{bit_at}
use Rattle.std.specs.Int.Bits.{and_self, and_zero_l, and_zero_r}
use Rattle.std.specs.List.{list_all, flat_map, range_with_len}
use Rattle.std.specs.Prelude.{bit_and, bit_or, ◌&&◌, nat_le, slice_index, if◌then◌else◌}
use Rattle.std.proofs.lemmas.Bool.{and_parts, cases_lt, cond_both, eqb-true, ltb-true}
use Rattle.std.proofs.lemmas.Bool.Decides.{nat_tests}
use Rattle.std.proofs.lemmas.Nat.{and_assoc, and_mask, or_disjoint, pow_pos, pow_below, shl-shr}
use Rattle.std.proofs.lemmas.Nat.Bits.{and_high, bit_at_and, bit_at_or, bit_at-zero, same_from_bits}
use Rattle.std.proofs.Math.Nat.{add_comm, mod-eq_of_lt, div-one}
use Rattle.byteorder.specs.Endian.{big_bytes, big_number}
use Rattle.sg_wire.specs.declared.command.in_action.InAction.TheVariants.{ReadKeys}
use Rattle.sg_wire.specs.declared.command.out_action.OutAction.TheVariants.{Clear}
use Rattle.sg_wire.specs.declared.command.Command.{Command}
use Rattle.sg_wire.specs.declared.command.Command.TheVariants as command
use Rattle.sg_wire.specs.declared.command.page_control.PageControl.{PageControl}
use Rattle.sg_wire.specs.declared.command.page_control.PageControl.TheVariants.{Current}
use Rattle.sg_wire.specs.declared.command.page_control.PageControl.TheVariants.{Changeable}
use Rattle.sg_wire.specs.declared.command.page_control.PageControl.TheVariants.{Default, Saved}
use Rattle.sg_wire.specs.declared.command.report.ReportTargetPortGroups.{ReportTargetPortGroups}
use Rattle.sg_wire.specs.declared.command.table.Name.TheVariants as name
use Rattle.sg_wire.specs.declared.command.verify.ByteCheck.{ByteCheck}
use Rattle.sg_wire.specs.declared.command.verify.ByteCheck.TheVariants.{Nothing, DataOut}
use Rattle.sg_wire.specs.declared.command.verify.ByteCheck.TheVariants.{Reserved, OneBlock}
use Rattle.sg_wire.specs.ByteCheck.{byte_check_code, byte_check_of}
use Rattle.sg_wire.specs.PageControl.{page_control_code, page_control_of}
use Rattle.sg_wire.specs.Commands.{reserve_in, reserve_out}
use Rattle.sg_wire.specs.CdbDecoding.{command_in, first_bad, mask_of, masks, service_action, unless_bad}
use Rattle.sg_wire.specs.CdbEncoding.{cdb_of, joined, part_in}
use Rattle.sg_wire.specs.Bits.{bits_of, has_bit}
use Rattle.sg_wire.specs.CdbFields.{Field, Place, Value, blocks_of, field, mask_in}
use Rattle.sg_wire.specs.Bits.{shifted_right}
use Rattle.sg_wire.specs.Layout.{Layout, Maker, action_place, layout, length_of}
use Rattle.sg_wire.specs.CdbFields.Place.{bit, bits, bytes, short_extent}
use Rattle.sg_wire.specs.Layout.ServiceAction.{none, named}
use Rattle.sg_wire.specs.FieldRoom.{fits_cdb, has_room, have_room}
use Rattle.sg_wire.specs.Laws.{IsReadAs}
use Rattle.sg_wire.specs.declared.profile.Profile.TheVariants.{Extended}
use Rattle.sg_wire.proofs.LayoutLemmas.{number_again}
use Rattle.sg_wire.proofs.FieldLemmas.{bit_of}
use Rattle.sg_wire.proofs.ProfileLemmas.{read-alike}
use Rattle.sg_wire.proofs.TableLemmas.{decodes}

-- ---- numbers and masks

-- a number has no bit outside a mask
abbrev IsWithin : ℕ → ℕ → Type 0
IsWithin x mask = bit_and x mask ≡ x

-- a number of w bits
small : (x w : ℕ) → x < 2 ^ w → IsWithin x (2 ^ w - 1)
small x w h = and_mask x w ∙ mod-eq_of_lt h

-- two numbers within masks that have no bit in common
module _ (a b m n : ℕ) (am : IsWithin a m) (bn : IsWithin b n) (apart : bit_and m n ≡ 0) where
  bit_by_bit : (i : ℕ) → (min (bit_at a i) (bit_at m i) ≡ bit_at a i)
      × (min (bit_at b i) (bit_at n i) ≡ bit_at b i) × (min (bit_at m i) (bit_at n i) ≡ 0)
      × (bit_at (bit_or a b) i ≡ max (bit_at a i) (bit_at b i))
      × (bit_at (bit_or m n) i ≡ max (bit_at m i) (bit_at n i))
  bit_by_bit i =
      let none = bit_of m n 0 i apart ∙ bit_at-zero i in
      (bit_of a m a i am, bit_of b n b i bn, none, bit_at_or a b i, bit_at_or m n i)

  sum_is_or : a + b ≡ bit_or a b
  sum_is_or = sym (or_disjoint a b (same_from_bits (bit_and a b) 0
      (λ i. omega (arith, bit_by_bit i, bit_at_and a b i, bit_at-zero i))))

  sum_is_within : IsWithin (a + b) (bit_or m n)
  sum_is_within = rw sum_is_or (same_from_bits _ _
      (λ i. omega (arith, bit_by_bit i, bit_at_and (bit_or a b) (bit_or m n) i)))

  -- a number that has their sum there has each of them
  parted : (x : ℕ) → bit_and x (bit_or m n) ≡ a + b → (bit_and x m ≡ a) × (bit_and x n ≡ b)
  parted x h =
      let both = λ (i : ℕ). bit_of x (bit_or m n) (bit_or a b) i (h ∙ sum_is_or) in (
        same_from_bits _ _ (λ i. omega (arith, bit_by_bit i, both i, bit_at_and x m i)),
        same_from_bits _ _ (λ i. omega (arith, bit_by_bit i, both i, bit_at_and x n i)),
      )

-- the bits of a number from low on, below high
and_between : (x high low : ℕ)
    → bit_and x (2 ^ high - 2 ^ low) ≡ x / 2 ^ low % 2 ^ (high - low) * 2 ^ low
and_between x high low = ⊎_elim
    (λ (above : high < low).
    let no_bit : 2 ^ high - 2 ^ low ≡ 0 = omega (arith, pow_below high low above) in
    let no_width : high - low ≡ 0 = omega arith in
    let nothing : x / 2 ^ low % 2 ^ 0 ≡ 0 = omega arith in
    rw (no_bit, no_width, nothing) (and_zero_r x ∙ omega arith))
    (λ (within : low ≤ high). let e : high ≡ high - low + low = omega arith in
    ap (λ h. bit_and x (2 ^ h - 2 ^ low)) e ∙ and_high x (high - low) low)
    (cases_lt high low)

-- ---- the part of a byte that a place has

-- a property of a choice by two numbers
unless_equal : (a b x y : ℕ) (P : ℕ → Type 0) → (a ≡ b → P x) → P y → P (if a == b then x else y)
unless_equal a b x y P h k = cond_both (a == b) x y P (λ e. h (eqb-true a b e)) (λ e. k)

shifted_left : (low value : ℕ) → (if low == 0 then value else value * 2 ^ low) ≡ value * 2 ^ low
shifted_left low value = unless_equal low 0 value (value * 2 ^ low) (λ x. x ≡ value * 2 ^ low)
    (λ e. rw e (omega arith)) refl

byte_of_number : (n x k : ℕ) → slice_index (big_bytes n x) k < 256
byte_of_number zero x k = omega arith
byte_of_number (suc zero) x zero = omega arith
byte_of_number (suc (suc n)) x zero = omega arith
byte_of_number (suc n) x (suc k) = byte_of_number n x k

-- a part that is in the byte, or is not
within_if : (here : Bool) (x mask : ℕ) → IsWithin x mask
    → IsWithin (joined (if here then x ∷ [] else [])) (if here then mask else 0)
within_if true x mask h = h
within_if false x mask h = refl

extent-within : (k lba count : ℕ) → lba < 2 ^ 21
    → IsWithin (joined (part_in k short_extent (lba, count))) (mask_in k short_extent)
extent-within zero lba count h = refl
extent-within (suc zero) lba count h = small (lba / 65536) 5 (omega arith)
extent-within (suc (suc zero)) lba count h = small (lba % 65536 / 256 % 256) 8 (omega arith)
extent-within (suc (suc (suc zero))) lba count h = small (lba % 65536 % 256) 8 (omega arith)
extent-within (suc (suc (suc (suc zero)))) lba count h = small (count % 256) 8 (omega arith)
extent-within (suc (suc (suc (suc (suc k))))) lba count h =
    let n : suc (suc (suc (suc (suc k)))) ≡ k + 5 = omega arith in
    let past : (nat_le 1 (k + 5) && nat_le (k + 5) 4) ≡ false = grind (arith, nat_tests) in
    rw (n, past) (and_zero_l (slice_index (0 ∷ []) k))

-- the part has no bit outside the place
part_is_within : (k : ℕ) (place : Place) (value : Value place) → has_room place value ≡ true
    → IsWithin (joined (part_in k place value)) (mask_in k place)
part_is_within k (bit byte index) true h = within_if (k == byte) _ _ (and_self (2 ^ index))
part_is_within k (bit byte index) false h = within_if (k == byte) 0 _ (and_zero_l (2 ^ index))
part_is_within k (bits byte high low) value h =
    let below : value < 2 ^ (high + 1 - low) = ltb-true value _ h in
    within_if (k == byte) _ _
    (rw (shifted_left low value, and_between _ (high + 1) low, shl-shr value low)
    (ap (λ x. x * 2 ^ low) (mod-eq_of_lt below)))
part_is_within k (bytes first last) value h =
    let n = last + 1 - first in
    within_if (nat_le first k && nat_le k last) _ 255 (small _ 8 (unless_equal first last value
    (slice_index (big_bytes n value) (k - first)) (λ x. x < 256)
    (λ e. let one : n ≡ 1 = omega arith in rw one at (ltb-true value (256 ^ n) h))
    (byte_of_number n value (k - first))))
part_is_within k short_extent value h =
    extent-within k value.0 value.1 (ltb-true value.0 (2 ^ 21) (and_parts _ _ h).0)

joined-append : (xs ys : List ℕ) → joined (xs ++ ys) ≡ joined xs + joined ys
joined-append [] ys = omega arith
joined-append (x ∷ []) [] = omega arith
joined-append (x ∷ []) (y ∷ ys) = refl
joined-append (x ∷ more ∷ xs) ys = omega (arith, joined-append (more ∷ xs) ys)

-- ---- byte k of some fields

module _ (k : ℕ) where
  abbrev part : Field → ℕ
  part f = joined (part_in k f.place f.value)

  abbrev byte : List Field → ℕ
  byte fields = joined (flat_map (λ (f : Field). part_in k f.place f.value) fields)

  -- the bits of the places
  abbrev covered : List Field → ℕ
  covered [] = 0
  covered (f ∷ fields) = bit_or (mask_in k f.place) (covered fields)

  -- no bit is of two places
  abbrev are_apart : List Field → Bool
  are_apart [] = true
  are_apart (f ∷ fields) = (bit_and (mask_in k f.place) (covered fields) == 0) && are_apart fields

  -- a number has at each place the field's part
  abbrev HasParts : ℕ → List Field → Type 0
  HasParts x [] = Unit {0}
  HasParts x (f ∷ fields) = (bit_and x (mask_in k f.place) ≡ part f) × HasParts x fields

  byte_is : (fields : List Field) → have_room fields ≡ true → are_apart fields ≡ true
      → IsWithin (byte fields) (covered fields)
      × ((x : ℕ) → bit_and x (covered fields) ≡ byte fields → HasParts x fields)
  byte_is [] room apart = (refl, λ x h. tt)
  byte_is (f ∷ fields) room apart =
      let rooms = and_parts _ _ room in
      let aparts = and_parts _ _ apart in
      let within = part_is_within k f.place f.value rooms.0 in
      let rest = byte_is fields rooms.1 aparts.1 in
      let none_shared = eqb-true _ 0 aparts.0 in
      let p = part_in k f.place f.value in
      let sum : byte (f ∷ fields) ≡ part f + byte fields = joined-append p _ in (
        rw sum (sum_is_within (part f) (byte fields) _ _ within rest.0 none_shared),
        λ x h. let two = parted (part f) (byte fields) _ _ within rest.0 none_shared x (h ∙ sum) in
            (two.0, rest.1 x two.1),
      )

-- ---- the fields of a CDB are read again

bits_again : (high low value x : ℕ) → bit_and x (2 ^ high - 2 ^ low) ≡ value * 2 ^ low
    → bit_and (shifted_right x low) (2 ^ (high - low) - 1) ≡ value
bits_again high low value x e =
    let shifted : shifted_right x low ≡ x / 2 ^ low = unless_equal low 0 x (x / 2 ^ low)
    (λ y. y ≡ x / 2 ^ low) (λ e. rw e (sym (div-one x))) refl in
    rw (shifted, and_mask (x / 2 ^ low) (high - low))
    (sym (shl-shr (x / 2 ^ low % 2 ^ (high - low)) low)
    ∙ ap (λ y. y / 2 ^ low) (sym (and_between x high low) ∙ e) ∙ shl-shr value low)

address_again : (lba : ℕ) → lba < 2 ^ 21
    → bits_of (lba / 65536) 4 0 * 65536 + big_number 2 (big_bytes 2 (lba % 65536) ++ []) ≡ lba
address_again lba h =
    omega (arith, small (lba / 65536) 5 (omega arith), number_again 2 (lba % 65536) [] (omega arith))

-- 256 blocks are written as 0
blocks_again : (count : ℕ) → (nat_le 1 count && nat_le count 256) ≡ true
    → blocks_of (count % 256) ≡ count
blocks_again count h = grind (arith, nat_tests)

module _ (all : List Field) where
  -- the value that is read at a place, in the bytes of all fields
  abbrev read : (place : Place) → Value place → Value place
  read (bit k index) value = has_bit (byte k all) (2 ^ index)
  read (bits k high low) value = bits_of (byte k all) high low
  read (bytes first last) value = if first == last then value
      else big_number (last + 1 - first) (big_bytes (last + 1 - first) value ++ [])
  read short_extent value = (
    bits_of (value.0 / 65536) 4 0 * 65536 + big_number 2 (big_bytes 2 (value.0 % 65536) ++ []),
    blocks_of (value.1 % 256),
  )

  -- no place of a byte that is shared overlaps another
  abbrev is_apart : Place → Bool
  is_apart (bit k index) = are_apart k all
  is_apart (bits k high low) = are_apart k all
  is_apart place = true

  is_again : (place : Place) (value : Value place) → has_room place value ≡ true
      → is_apart place ≡ true → ((k : ℕ) → are_apart k all ≡ true
      → bit_and (byte k all) (mask_in k place) ≡ joined (part_in k place value))
      → read place value ≡ value
  is_again (bit k index) true room apart own =
      let some : (2 ^ index == 0) ≡ false = grind (arith, nat_tests, pow_pos index) in
      rw (rw (eq-eqb k k refl) at (own k apart), some) refl
  is_again (bit k index) false room apart own = rw (rw (eq-eqb k k refl) at (own k apart)) refl
  is_again (bits k high low) value room apart own =
      bits_again (high + 1) low value (byte k all)
      ((rw (eq-eqb k k refl) at (own k apart)) ∙ shifted_left low value)
  is_again (bytes first last) value room apart own =
      let n = last + 1 - first in
      unless_equal first last value (big_number n (big_bytes n value ++ [])) (λ x. x ≡ value)
      (λ e. refl) (number_again n value [] (ltb-true value (256 ^ n) room))
  is_again short_extent value room apart own =
      let both = and_parts _ _ room in
      let lba = address_again value.0 (ltb-true value.0 (2 ^ 21) both.0) in
      let count = blocks_again value.1 both.1 in λ i. (lba i, count i)

  -- the command that is made of the values that are read, and of the fields' own values
  abbrev made : (fields : List Field) → Maker fields → Command
  made [] command = command
  made (f ∷ fields) make = made fields (make (read f.place f.value))

  abbrev own : (fields : List Field) → Maker fields → Command
  own [] command = command
  own (f ∷ fields) make = own fields (make f.value)

  made_again : (fields others : List Field) (make : Maker fields) → have_room (fields ++ others) ≡ true
      → list_all (λ (f : Field). is_apart f.place) fields ≡ true
      → ((k : ℕ) → are_apart k all ≡ true → HasParts k (byte k all) (fields ++ others))
      → made fields make ≡ own fields make
  made_again [] others make room apart parts = refl
  made_again (f ∷ fields) others make room apart parts =
      let rooms = and_parts _ _ room in
      let aparts = and_parts _ _ apart in
      made_again fields others (make (read f.place f.value)) rooms.1 aparts.1 (λ k a. (parts k a).1)
      ∙ ap (λ (v : Value f.place). own fields (make v))
      (is_again f.place f.value rooms.0 aparts.0 (λ k a. (parts k a).0))

-- ---- every command

module _ (l : Layout) where
  -- the operation code and the service action are fields too
  abbrev others : List Field
  others = field (bytes 0 0) l.opcode ∷ (elim l.action as (λ a. List Field) [
    | none ↦ []
    | named action ↦ field action_place action ∷ []
  ])

  abbrev all : List Field
  all = l.fields ++ others

  abbrev bytes_from : (k n : ℕ) → List ℕ
  bytes_from k n = map (λ k. byte k all) (range_with_len k n)

  -- in each byte the places do not overlap, and lie in the mask
  abbrev is_laid_out : ℕ → Bool
  is_laid_out k = are_apart k all && (bit_and (covered k all) (mask_of Extended l k) == covered k all)

  abbrev are_laid_out : Bool
  are_laid_out =
      list_all is_laid_out (range_with_len 0 (length_of l.opcode))
      && list_all (λ (f : Field). is_apart all f.place) l.fields

  module _ (room : have_room all ≡ true) where
    no_bad_byte : (k n : ℕ) → list_all is_laid_out (range_with_len k n) ≡ true
        → first_bad k (map (mask_of Extended l) (range_with_len k n)) (bytes_from k n) ≡ None
    no_bad_byte k zero h = refl
    no_bad_byte k (suc n) h =
        let both = and_parts _ _ h in
        let tests = and_parts _ _ both.0 in
        let within = (byte_is k all room tests.0).0 in
        let fits : IsWithin (byte k all) (mask_of Extended l k) =
        ap (λ x. bit_and x (mask_of Extended l k)) (sym within)
        ∙ and_assoc (mask_of Extended l k) (byte k all) (covered k all)
        ∙ ap (bit_and (byte k all)) (eqb-true _ _ tests.1) ∙ within in
        rw (eq-eqb _ _ fits) (no_bad_byte (k + 1) n both.1)

    decoded : (command : Command) → are_laid_out ≡ true → own all l.fields l.make ≡ command
        → unless_bad (first_bad 0 (masks l) (bytes_from 0 (length_of l.opcode)))
        (made all l.fields l.make) ≡ Ok command
    decoded command laid_out is_own =
        let tests = and_parts _ _ laid_out in
        let again = made_again all l.fields others l.make room tests.1
        (λ k a. let is = byte_is k all room a in is.1 (byte k all) is.0) in
        ap (λ bad. unless_bad bad (made all l.fields l.make))
        (no_bad_byte 0 (length_of l.opcode) tests.0)
        ∙ ap Ok (again ∙ is_own)

-- the PC field of a MODE SENSE
again_by_code : (pc : PageControl) → page_control_of (page_control_code pc) ≡ pc
again_by_code Current = refl
again_by_code Changeable = refl
again_by_code Default = refl
again_by_code Saved = refl

-- the BYTCHK field of a VERIFY or a WRITE AND VERIFY
checked_again : (check : ByteCheck) → byte_check_of (byte_check_code check) ≡ check
checked_again Nothing = refl
checked_again DataOut = refl
checked_again Reserved = refl
checked_again OneBlock = refl

abbrev ReadsBack : Command → Type 0
ReadsBack command = fits_cdb command ≡ true → command_in Extended (cdb_of command) ≡ Ok command

-- a field beside a service action: together they are no literal, by which the row would be found
format-read : (c : ReportTargetPortGroups) → ReadsBack (command.ReportTargetPortGroups c)
unfolding command_in cdb_of
format-read c h =
    let l = layout (command.ReportTargetPortGroups c) in
    let cdb = bytes_from l 0 12 in
    let same : cdb_of (command.ReportTargetPortGroups c) ≡ cdb =
    ap (λ b. 0xA3 ∷ b ∷ drop 2 cdb) (add_comm 10 (c.format * 32)) in
    let its : service_action cdb ≡ 0x0A = and_mask (c.format * 32 + 10) 5 ∙ omega arith in
    ap (command_in Extended) same ∙ decodes Extended cdb name.ReportTargetPortGroups its refl
    ∙ decoded l h (command.ReportTargetPortGroups c) refl refl

reads_back : (command : Command) → ReadsBack command
unfolding command_in cdb_of
reads_back (command.PersistentReserveIn c) h =
    (elim c.action as (λ a. ReadsBack (reserve_in a c.allocation_length)) [
      | ReadKeys ↦ λ h. decoded (layout (reserve_in ReadKeys c.allocation_length)) h _ refl refl
      | a ↦ λ h. decoded (layout (reserve_in a c.allocation_length)) h _ refl refl
    ]) h
reads_back (command.PersistentReserveOut c) h =
    (elim c.action as (λ a. ReadsBack (reserve_out a c.scope_type c.list_length)) [
      | Clear ↦ λ h. decoded (layout (reserve_out Clear c.scope_type c.list_length)) h _ refl refl
      | a ↦ λ h. decoded (layout (reserve_out a c.scope_type c.list_length)) h _ refl refl
    ]) h
reads_back (command.ModeSense6 c) h = decoded (layout (command.ModeSense6 c)) h _ refl
    (ap (λ pc. command.ModeSense6 (record c { page = record c.page { page_control = pc } }))
    (again_by_code c.page.page_control))
reads_back (command.ModeSense10 c) h = decoded (layout (command.ModeSense10 c)) h _ refl
    (ap (λ pc. command.ModeSense10 (record c { page = record c.page { page_control = pc } }))
    (again_by_code c.page.page_control))
reads_back (command.Verify10 c) h = decoded (layout (command.Verify10 c)) h _ refl
    (ap (λ check. command.Verify10 (record c { byte_check = check })) (checked_again c.byte_check))
reads_back (command.WriteAndVerify10 c) h = decoded (layout (command.WriteAndVerify10 c)) h _ refl
    (ap (λ check. command.WriteAndVerify10 (record c { byte_check = check })) (checked_again c.byte_check))
reads_back (command.Verify12 c) h = decoded (layout (command.Verify12 c)) h _ refl
    (ap (λ check. command.Verify12 (record c { byte_check = check })) (checked_again c.byte_check))
reads_back (command.WriteAndVerify12 c) h = decoded (layout (command.WriteAndVerify12 c)) h _ refl
    (ap (λ check. command.WriteAndVerify12 (record c { byte_check = check })) (checked_again c.byte_check))
reads_back (command.Verify16 c) h = decoded (layout (command.Verify16 c)) h _ refl
    (ap (λ check. command.Verify16 (record c { byte_check = check })) (checked_again c.byte_check))
reads_back (command.WriteAndVerify16 c) h = decoded (layout (command.WriteAndVerify16 c)) h _ refl
    (ap (λ check. command.WriteAndVerify16 (record c { byte_check = check })) (checked_again c.byte_check))
reads_back (command.ReportTargetPortGroups c) h = format-read c h
reads_back command h = decoded (layout command) h command refl refl

-- on each disk that has the command
pub is_read-back : (command : Command) → fits_cdb command ≡ true → IsReadAs (cdb_of command) command
is_read-back command h = read-alike Extended (cdb_of command) command (reads_back command h)
