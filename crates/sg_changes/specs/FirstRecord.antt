-- The first record of a file: the disk as it was made. No change has its tag.
use Rattle.std.specs.Prelude.{ℕ, ◌^◌, ◌==◌, Bool, ◌&&◌, nat_le, nat_lt, List, ◌∷◌, zero, suc}
use Rattle.std.specs.Prelude.{Option, Some, None, false, true, if◌then◌else◌}
use Rattle.sg_pages.specs.Identity.{IdentityFields}
use Rattle.sg_pages.specs.NewIdentity.{are_texts}
use Rattle.sg_pages.specs.declared.physical_block.PhysicalBlock.{PhysicalBlock}
use Rattle.sg_pages.specs.declared.physical_block.PhysicalBlock.TheVariants.{Of512, Of4096}
use Rattle.sg_store.specs.Disk.{max_capacity}
use Rattle.sg_wire.specs.Profile.{limits_of}
use Rattle.sg_wire.specs.declared.profile.Profile.{Profile}
use Rattle.sg_wire.specs.declared.profile.Profile.TheVariants.{Base, Extended}
use Rattle.sg_changes.specs.Format.{Format, coded, made, number, only, pair, plain, tagged}
use Rattle.sg_changes.specs.KeptFields.{KeptFields, blank}

-- The number of addresses, the number of blocks of the pool, and the identity.
pub record NewDiskFields : Type 0 where
  pub capacity : ℕ
  pub pool : ℕ
  pub identity : IdentityFields

-- The disk when it is new.
abbrev pub new_disk_kept : NewDiskFields → KeptFields
new_disk_kept disk = blank disk.capacity disk.pool disk.identity

-- ---- Which disks there are

abbrev pub is_between : (low n high : ℕ) → Bool
is_between low n high = nat_le low n && nat_le n high

-- The texts consist of printable characters, and the local identifier has 60 bits.
abbrev pub is_identity : IdentityFields → Bool
is_identity i = are_texts i && nat_lt i.local (2 ^ 60)

-- There are 1 to 2^40 addresses, and as many blocks of the pool as the profile allows.
abbrev pub is_new_disk : NewDiskFields → Bool
is_new_disk disk =
    is_between 1 disk.capacity max_capacity
    && is_between 1 disk.pool (limits_of disk.identity.profile).pool

-- ---- The bytes

-- PROFILE 1: 0 for the base profile, 1 for the extended one.
abbrev pub profile_of : ℕ → Option Profile
profile_of zero = Some Base
profile_of (suc zero) = Some Extended
profile_of (suc (suc _)) = None

abbrev pub profile_code : Profile → ℕ
profile_code Base = 0
profile_code Extended = 1

unfoldable pub profile : Format Profile
profile = coded profile_of (λ p. Some (profile_code p)) (number 1)

-- KIND 1: 1 if the disk takes too little data-out, and 2 more if a physical block has 4,096 bytes.
abbrev pub kind_of : ℕ → Option (Bool × PhysicalBlock)
kind_of zero = Some (false, Of512)
kind_of (suc zero) = Some (true, Of512)
kind_of (suc (suc zero)) = Some (false, Of4096)
kind_of (suc (suc (suc zero))) = Some (true, Of4096)
kind_of (suc (suc (suc (suc _)))) = None

abbrev pub kind_code : (takes_short_data_out : Bool) → PhysicalBlock → ℕ
kind_code false Of512 = 0
kind_code true Of512 = 1
kind_code false Of4096 = 2
kind_code true Of4096 = 3

unfoldable pub kind : Format (Bool × PhysicalBlock)
kind = coded kind_of (λ k. Some (kind_code k.0 k.1)) (number 1)

-- VENDOR 8, PRODUCT 16, REVISION 4, SERIAL NUMBER 8, LOCAL IDENTIFIER 8, PROFILE 1 and KIND 1.
unfoldable pub identity : Format IdentityFields
identity =
    only is_identity
    (coded
    (λ p. Some (record {
      vendor = p.0;
      product = p.1.0;
      revision = p.1.1.0;
      serial = p.1.1.1.0;
      local = p.1.1.1.1.0;
      profile = p.1.1.1.1.1.0;
      takes_short_data_out = p.1.1.1.1.1.1.0;
      physical_block = p.1.1.1.1.1.1.1;
    }))
    (λ (i : IdentityFields).
    Some (
      i.vendor,
      (
        i.product,
        (
          i.revision,
          (
            i.serial,
            (
              i.local,
              (i.profile, (i.takes_short_data_out, i.physical_block)),
            ),
          ),
        ),
      ),
    ))
    (pair (plain 8)
    (pair (plain 16)
    (pair (plain 4)
    (pair (plain 8)
    (pair (number 8)
    (pair profile kind)))))))

-- CAPACITY 8, POOL 4, and the identity.
abbrev pub disk_fields : Format NewDiskFields
disk_fields =
    coded
    (λ p. Some (record { capacity = p.0; pool = p.1.0; identity = p.1.1 }))
    (λ (d : NewDiskFields). Some (d.capacity, (d.pool, d.identity)))
    (pair (number 8) (pair (number 4) identity))

unfoldable pub new_disk : Format NewDiskFields
new_disk = only is_new_disk disk_fields

-- In bytes.
abbrev pub first_record_length : ℕ
first_record_length = 59

-- Its tag is 9.
abbrev pub first_record_of : NewDiskFields → List ℕ
first_record_of disk = 9 ∷ new_disk.bytes disk

unfoldable pub disk_with_tag : (tag : ℕ) (fields : List ℕ) → Option (NewDiskFields × List ℕ)
disk_with_tag tag fields = if tag == 9 then made (λ disk. disk) (new_disk.at fields) else None

abbrev pub first_record : Format NewDiskFields
first_record = tagged first_record_of new_disk.is_possible disk_with_tag
