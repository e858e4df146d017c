-- A row makes commands of its own. Only NDOB of WRITE SAME(16) is a field that depends on the profile, so
-- only its bit is allowed on one disk and refused on another.
use Rattle.std.proofs.Common.{◌≡◌, ℕ, ◌==◌, List, [], ◌∷◌, Bool, true, false, not, cond, drop}
use Rattle.std.proofs.Common.{Option, Some, None, eq-eqb, refl, sym, ap, ◌∙◌, min, arith}
use Rattle.std.specs.Int.{bit_at}
use Rattle.std.specs.Int.Bits.{and_zero_l, and_zero_r}
use Rattle.std.specs.List.{list_all}
use Rattle.std.specs.Prelude.{◌&&◌, bit_and, bit_or, find, map, slice_index}
use Rattle.std.proofs.lemmas.Bool.{eqb-true, not-false}
use Rattle.std.proofs.lemmas.Nat.{and_assoc}
use Rattle.std.proofs.lemmas.Nat.Bits.{bit_at_and, bit_at_or, bit_at-zero, same_from_bits}
use Rattle.sg_wire.specs.Bits.{has_bit}
use Rattle.sg_wire.specs.CdbDecoding.{command_by_row, first_bad, has_action_of, make_from, masks, masks_in}
use Rattle.sg_wire.specs.CdbDecoding.{unless_bad}
use Rattle.sg_wire.specs.CdbFields.{allows_field}
use Rattle.sg_wire.specs.Layout.{Layout, layout}
use Rattle.sg_wire.specs.declared.command.Command.{Command}
use Rattle.sg_wire.specs.declared.command.Command.TheVariants as command
use Rattle.sg_wire.specs.declared.command.provisioning.WriteSame16.{WriteSame16}
use Rattle.sg_wire.specs.declared.profile.Profile.{Profile}
use Rattle.sg_wire.specs.declared.profile.Profile.TheVariants.{Base, Extended}

-- ---- a byte and its mask

pub bit_of : (x y z i : ℕ) → bit_and x y ≡ z → min (bit_at x i) (bit_at y i) ≡ bit_at z i
bit_of x y z i h = sym (bit_at_and x y i) ∙ ap (λ n. bit_at n i) h

-- a byte within a mask is within each greater one
pub within-mask : (byte shown mask : ℕ) → bit_and byte shown ≡ byte → bit_and shown mask ≡ shown
    → bit_and byte mask ≡ byte
within-mask byte shown mask e f =
    ap (λ b. bit_and b mask) (sym e) ∙ and_assoc mask byte shown ∙ ap (bit_and byte) f ∙ e

-- it has no bit outside the mask
none-outside : (byte mask bit : ℕ) → bit_and byte mask ≡ byte → bit_and mask bit ≡ 0
    → has_bit byte bit ≡ false
none-outside byte mask bit e f =
    let nothing : bit_and byte bit ≡ 0 =
    ap (λ b. bit_and b bit) (sym e) ∙ and_assoc bit byte mask ∙ ap (bit_and byte) f ∙ and_zero_r byte in
    ap (λ n. not (n == 0)) nothing

-- a byte without a bit is within the mask without the bit
without-bit : (byte mask bit : ℕ) → bit_and byte (bit_or mask bit) ≡ byte → has_bit byte bit ≡ false
    → bit_and byte mask ≡ byte
without-bit byte mask bit e f =
    let nothing : bit_and byte bit ≡ 0 = eqb-true _ _ (not-false (bit_and byte bit == 0) f) in
    same_from_bits (bit_and byte mask) byte (λ i. omega (
      arith,
      bit_of byte (bit_or mask bit) byte i e,
      bit_of byte bit 0 i nothing,
      bit_at-zero i,
      bit_at_or mask bit i,
      bit_at_and byte mask i,
    ))

-- ---- the mask of byte 1

-- no byte is bad
fits-both : (first second : Bool) (later : Option ℕ)
    → cond first (cond second later (Some 1)) (Some 0) ≡ None
    → (first ≡ true) × (second ≡ true) × (later ≡ None)
fits-both true true later e = (refl, refl, e)
fits-both true false later e = cc
fits-both false second later e = cc

both-fit : (mask : ℕ) (rest : List ℕ) (code byte : ℕ) (cdb : List ℕ)
    → first_bad 0 (0xFF ∷ mask ∷ rest) (code ∷ byte ∷ cdb) ≡ None
    → ((bit_and code 0xFF == code) ≡ true) × ((bit_and byte mask == byte) ≡ true)
    × (first_bad 2 rest cdb ≡ None)
both-fit mask rest code byte cdb fits =
    fits-both (bit_and code 0xFF == code) (bit_and byte mask == byte) (first_bad 2 rest cdb) fits

second-fits : (mask : ℕ) (rest cdb : List ℕ) → first_bad 0 (0xFF ∷ mask ∷ rest) cdb ≡ None
    → bit_and (slice_index cdb 1) mask ≡ slice_index cdb 1
second-fits mask rest [] fits = and_zero_l mask
second-fits mask rest (code ∷ []) fits = and_zero_l mask
second-fits mask rest (code ∷ byte ∷ cdb) fits =
    eqb-true (bit_and byte mask) byte (both-fit mask rest code byte cdb fits).1

-- another mask that allows the byte
other-mask : (mask other : ℕ) (rest cdb : List ℕ) → first_bad 0 (0xFF ∷ mask ∷ rest) cdb ≡ None
    → bit_and (slice_index cdb 1) other ≡ slice_index cdb 1
    → first_bad 0 (0xFF ∷ other ∷ rest) cdb ≡ None
other-mask mask other rest [] fits allowed = refl
other-mask mask other rest (code ∷ []) fits allowed = fits
other-mask mask other rest (code ∷ byte ∷ cdb) fits allowed =
    let both = both-fit mask rest code byte cdb fits in
    rw (both.0, eq-eqb (bit_and byte other) byte allowed) both.2

-- ---- rows

-- two layouts of one row, that may differ in the values of its fields
abbrev pub AreOfOneRow : Layout → Layout → Type 0
AreOfOneRow l m = (l.opcode ≡ m.opcode) × (l.profile ≡ m.profile)

-- a disk of a profile allows all fields of a command
abbrev pub have_fields : Profile → Command → Bool
have_fields profile command = list_all (allows_field profile) (layout command).fields

module _ (l : Layout) (cdb : List ℕ) where
  -- the command that a row makes of a CDB
  abbrev pub command_made : Command
  command_made = make_from cdb l.fields l.make

  -- a disk of a profile allows all bits of the CDB, and has all fields of the command
  abbrev pub AllowsBits : Profile → Type 0
  AllowsBits profile = first_bad 0 (masks_in profile l) cdb ≡ None

  abbrev pub AllowsFields : Profile → Type 0
  AllowsFields profile = have_fields profile command_made ≡ true

-- a row makes commands of its own, whose fields decide which disks allow their bits
pub record Makes (l : Layout) : Type 0 where
  pub its : (cdb : List ℕ) → AreOfOneRow (layout (command_made l cdb)) l
  pub fields : (profile : Profile) (cdb : List ℕ) → AllowsBits l cdb profile
      → AllowsFields l cdb profile
  pub bits : (one other : Profile) (cdb : List ℕ) → AllowsBits l cdb one → AllowsFields l cdb other
      → AllowsBits l cdb other

-- a command with NDOB
module _ (c : WriteSame16) where
  abbrev same_row : Layout
  same_row = layout (command.WriteSame16 c)

  -- the masks after byte 1
  abbrev later_masks : List ℕ
  later_masks = drop 2 (masks_in Extended same_row)

  same-fields : (profile : Profile) (cdb : List ℕ) → AllowsBits same_row cdb profile
      → AllowsFields same_row cdb profile
  same-fields Base cdb fits =
      ap (λ b. not b && true)
      (none-outside (slice_index cdb 1) 0x18 0x01 (second-fits 0x18 later_masks cdb fits) refl)
  same-fields Extended cdb fits = refl

  unset : (is_set : Bool) → (not is_set && true) ≡ true → is_set ≡ false
  unset true e = cc
  unset false e = refl

  same-bits : (one other : Profile) (cdb : List ℕ) → AllowsBits same_row cdb one
      → AllowsFields same_row cdb other → AllowsBits same_row cdb other
  same-bits Base Base cdb fits has = fits
  same-bits Base Extended cdb fits has =
      other-mask 0x18 0x19 later_masks cdb fits
      (within-mask (slice_index cdb 1) 0x18 0x19 (second-fits 0x18 later_masks cdb fits) refl)
  same-bits Extended Base cdb fits has =
      other-mask 0x19 0x18 later_masks cdb fits
      (without-bit (slice_index cdb 1) 0x18 0x01 (second-fits 0x19 later_masks cdb fits)
      (unset (has_bit (slice_index cdb 1) 0x01) has))
  same-bits Extended Extended cdb fits has = fits

  same-makes : Makes same_row
  same-makes = record { its = λ cdb. (refl, refl); fields = same-fields; bits = same-bits }

pub makes : (command : Command) → Makes (layout command)
makes (command.WriteSame16 c) = same-makes c
makes other = record {
  its = λ cdb. (refl, refl);
  fields = λ profile cdb fits. refl;
  bits = λ one other cdb fits has. fits;
}

-- ---- rows whose masks are the same in each profile

module _ (profile : Profile) (cdb : List ℕ) where
  abbrev ReadAlike : Option Layout → Type 0
  ReadAlike found = command_by_row profile cdb found ≡ command_by_row Extended cdb found

  same-cond : (is_found : Bool) (l : Layout) (later : Option Layout) → masks_in profile l ≡ masks l
      → ReadAlike later → ReadAlike (cond is_found (Some l) later)
  same-cond true l later same rest =
      ap (λ bits. unless_bad (first_bad 0 bits cdb) (make_from cdb l.fields l.make)) same
  same-cond false l later same rest = rest

  module _ {A : Type 0} (row : A → Layout)
      (h : (action : A) → masks_in profile (row action) ≡ masks (row action)) where
    pub same-found : (actions : List A) → ReadAlike (find (has_action_of cdb) (map row actions))
    same-found [] = refl
    same-found (action ∷ actions) =
        same-cond (has_action_of cdb (row action)) (row action)
        (find (has_action_of cdb) (map row actions)) (h action) (same-found actions)
