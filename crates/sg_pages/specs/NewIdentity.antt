-- The identity that a disk is made with: which texts are accepted, the default ones, and those of a
-- seed.
use Rattle.std.specs.Prelude.{ℕ, ◌^◌, List, Bool, false, Result, Ok, Err, ◌&&◌, not, nat_lt}
use Rattle.std.specs.Prelude.{if◌then◌else◌, codes}
use Rattle.std.specs.List.{list_all}
use Rattle.byteorder.specs.Endian.{big_bytes}
use Rattle.hex.specs.Hex.{encode_lower}
use Rattle.sg_wire.specs.Ascii.{is_printable}
use Rattle.sg_wire.specs.declared.profile.Profile.TheVariants.{Base}
use Rattle.sg_pages.specs.declared.identity.IdentityFault.{IdentityFault}
use Rattle.sg_pages.specs.declared.identity.IdentityFault.TheVariants.{Text, Local}
use Rattle.sg_pages.specs.declared.physical_block.PhysicalBlock.TheVariants.{Of512}
use Rattle.sg_pages.specs.Identity.{IdentityFields}

-- The names of a disk of the base profile, which refuses a command with too little data-out. A physical
-- block has 512 bytes.
abbrev pub identity_fields : (vendor product revision serial : List ℕ) (local : ℕ) → IdentityFields
identity_fields vendor product revision serial local = record {
  vendor = vendor;
  product = product;
  revision = revision;
  serial = serial;
  local = local;
  profile = Base;
  takes_short_data_out = false;
  physical_block = Of512;
}

-- The default identity of a disk.
-- Departure (SPC-4, 6.6.2): T10 assigns the vendor identification there.
abbrev pub standard_identity : IdentityFields
standard_identity =
    identity_fields
    (codes "SGMODEL ") (codes "THIN DISK       ") (codes "0100") (codes "00000001") 1

-- Every text consists of printable characters.
abbrev pub are_texts : IdentityFields → Bool
are_texts i =
    list_all is_printable i.vendor && list_all is_printable i.product
    && list_all is_printable i.revision && list_all is_printable i.serial

-- An identity, or its first fault.
abbrev pub checked_identity : IdentityFields → Result IdentityFields IdentityFault
checked_identity i =
    if not (are_texts i) then Err Text else (if nat_lt i.local (2 ^ 60) then Ok i else Err Local)

-- The serial number of a seed: its lowest 32 bits, as 8 hexadecimal digits.
abbrev pub serial_of_seed : (seed : ℕ) → List ℕ
serial_of_seed seed = encode_lower (big_bytes 4 seed)

-- The names of a seed. The seed is the locally assigned identifier, and so the last 60 bits of the NAA
-- designator. Vendor, product and revision are the default ones.
abbrev pub seeded_identity : (seed : ℕ) → IdentityFields
seeded_identity seed = record standard_identity { serial = serial_of_seed seed; local = seed }

-- The identity of a seed of at most 60 bits. A longer seed has none.
abbrev pub identity_of_seed : (seed : ℕ) → Result IdentityFields IdentityFault
identity_of_seed seed = checked_identity (seeded_identity seed)
