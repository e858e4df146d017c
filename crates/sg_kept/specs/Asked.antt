-- What a disk is asked to have, and whether it has that.
use Rattle.std.specs.Prelude.{ℕ, Bool, false, true, not, ◌&&◌, ◌==◌, Option, None, Some}
use Rattle.sg_pages.specs.Identity.{IdentityFields}
use Rattle.sg_pages.specs.PhysicalBlock.{exponent_of}
use Rattle.sg_pages.specs.declared.physical_block.PhysicalBlock.{PhysicalBlock}
use Rattle.sg_wire.specs.Profile.{is_in}
use Rattle.sg_wire.specs.declared.profile.Profile.{Profile}
use Rattle.sg_wire.specs.declared.profile.Profile.TheVariants.{Extended}
use Rattle.sg_kept.specs.declared.asked.AskedProfile.{AskedProfile}

-- A profile, whether a disk takes less data-out than a command needs, and its physical blocks.
abbrev pub asked_profile : Profile → (takes_short_data_out : Bool) → PhysicalBlock → AskedProfile
asked_profile profile takes_short_data_out physical_block = record {
  profile = profile;
  takes_short_data_out = takes_short_data_out;
  physical_block = physical_block;
}

-- What a disk has.
abbrev pub profile_of : (disk : IdentityFields) → AskedProfile
profile_of disk = asked_profile disk.profile disk.takes_short_data_out disk.physical_block

-- These names, for a disk of the profile.
abbrev pub of_profile : AskedProfile → (names : IdentityFields) → IdentityFields
of_profile asked names = record names {
  profile = asked.profile;
  takes_short_data_out = asked.takes_short_data_out;
  physical_block = asked.physical_block;
}

abbrev pub is_same : Bool → Bool → Bool
is_same true b = b
is_same false b = not b

abbrev pub has_profile : AskedProfile → (disk : IdentityFields) → Bool
has_profile asked disk =
    is_same (is_in Extended asked.profile) (is_in Extended disk.profile)
    && (is_same asked.takes_short_data_out disk.takes_short_data_out
    && exponent_of asked.physical_block == exponent_of disk.physical_block)

-- A profile is asked for, and the disk has another one.
abbrev pub is_other_profile : Option AskedProfile → (disk : IdentityFields) → Bool
is_other_profile None disk = false
is_other_profile (Some asked) disk = not (has_profile asked disk)

-- A number is asked for, and the disk has another one.
abbrev pub is_other : Option ℕ → (has : ℕ) → Bool
is_other None has = false
is_other (Some asked) has = not (asked == has)
