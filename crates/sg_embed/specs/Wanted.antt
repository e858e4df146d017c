-- What C asks of a disk in a file. An empty file becomes such a disk, and the disk of another file has to
-- be one.
use Rattle.std.specs.Prelude.{ℕ, ◌==◌, ◌-◌, ◌^◌, ◌&&◌, Bool, false, not, if◌then◌else◌}
use Rattle.std.specs.Prelude.{Option, Some, None, unwrap_or, Result, Ok, Err}
use Rattle.std.specs.Str.{bytes_eq}
use Rattle.sg_pages.specs.Identity.{IdentityFields}
use Rattle.sg_pages.specs.NewIdentity.{standard_identity}
use Rattle.sg_pages.specs.declared.identity.IdentityFault.{IdentityFault}
use Rattle.sg_kept.specs.Asked.{is_other, is_other_profile, of_profile}
use Rattle.sg_kept.specs.declared.asked.AskedProfile.{AskedProfile}
use Rattle.sg_target.specs.Config.{ConfigFields, checked_config}
use Rattle.sg_target.specs.declared.config.ConfigFault.{ConfigFault}
use Rattle.sg_embed.specs.Executed.{disk_config}
use Rattle.sg_embed.specs.Outcome.{config_outcome, identity_outcome}
use Rattle.sg_embed.specs.Profiles.{profile_numbered}
use Rattle.sg_embed.specs.Records.{asked_identity}
use Rattle.sg_embed.specs.declared.file_record.WantedRecord.{WantedRecord}
use Rattle.sg_embed.specs.declared.outcome.Outcome.{Outcome}
use Rattle.sg_embed.specs.declared.outcome.Outcome.TheVariants.{UnknownProfile, OtherProfile}
use Rattle.sg_embed.specs.declared.outcome.Outcome.TheVariants.{OtherBlocks, OtherPool, OtherIdentity}
use Rattle.sg_embed.specs.declared.wanted.Wanted.{Wanted}

-- ---- What a record asks for

-- With 0 any number will do.
abbrev pub number_if_asked : (number : ℕ) → Option ℕ
number_if_asked number = if number == 0 then None else Some number

-- With this number any profile will do.
abbrev pub any_profile : ℕ
any_profile = 2 ^ 32 - 1

abbrev pub known_profile : Option AskedProfile → Result (Option AskedProfile) Outcome
known_profile None = Err UnknownProfile
known_profile (Some profile) = Ok (Some profile)

abbrev pub profile_if_asked : (number : ℕ) → Result (Option AskedProfile) Outcome
profile_if_asked number =
    if number == any_profile then Ok None else known_profile (profile_numbered number)

abbrev pub accepted_names : Result IdentityFields IdentityFault → Result (Option IdentityFields) Outcome
accepted_names (Ok names) = Ok (Some names)
accepted_names (Err fault) = Err (identity_outcome fault)

abbrev pub names_if_asked : WantedRecord → Result (Option IdentityFields) Outcome
names_if_asked r = if r.has_identity == 0 then Ok None else accepted_names (asked_identity r.identity)

-- The profile is checked before the names.
abbrev pub wanted_with : WantedRecord → Result (Option AskedProfile) Outcome
    → Result (Option IdentityFields) Outcome → Result Wanted Outcome
wanted_with r (Err refused) names = Err refused
wanted_with r (Ok profile) (Err refused) = Err refused
wanted_with r (Ok profile) (Ok names) = Ok (record {
  profile = profile;
  blocks = number_if_asked r.blocks;
  pool = number_if_asked r.pool;
  names = names;
  device = r.device;
})

-- What a record asks for, or why it is refused.
abbrev pub asked_disk : WantedRecord → Result Wanted Outcome
asked_disk r = wanted_with r (profile_if_asked r.profile) (names_if_asked r)

-- ---- The disk of an empty file

abbrev pub config_or_refused : Result ConfigFields ConfigFault → Result ConfigFields Outcome
config_or_refused (Ok config) = Ok config
config_or_refused (Err fault) = Err (config_outcome fault)

-- Without names it has the standard ones. No disk has 0 blocks, or a pool of 0 blocks.
abbrev pub config_of_profile : Wanted → Option AskedProfile → Result ConfigFields Outcome
config_of_profile wanted None = Err UnknownProfile
config_of_profile wanted (Some profile) = config_or_refused (checked_config (disk_config
    (unwrap_or wanted.blocks 0) (unwrap_or wanted.pool 0)
    (of_profile profile (unwrap_or wanted.names standard_identity))))

-- The configuration of the new disk, or why there is none: its profile and its sizes have to be asked for.
abbrev pub wanted_config : Wanted → Result ConfigFields Outcome
wanted_config wanted = config_of_profile wanted wanted.profile

-- ---- The disk that a file has

abbrev pub has_names : (names disk : IdentityFields) → Bool
has_names names disk =
    bytes_eq names.vendor disk.vendor && bytes_eq names.product disk.product
    && bytes_eq names.revision disk.revision && bytes_eq names.serial disk.serial
    && names.local == disk.local

-- Names are asked for, and a disk has others.
abbrev pub is_other_identity : Option IdentityFields → (disk : IdentityFields) → Bool
is_other_identity None disk = false
is_other_identity (Some names) disk = not (has_names names disk)

-- A disk is what was asked for, or the first difference.
abbrev pub compared : Wanted → (disk : ConfigFields) → Result Unit Outcome
compared wanted disk =
    if is_other_profile wanted.profile disk.identity then Err OtherProfile
    else if is_other wanted.blocks disk.blocks then Err OtherBlocks
    else if is_other wanted.pool disk.pool then Err OtherPool
    else if is_other_identity wanted.names disk.identity then Err OtherIdentity
    else Ok tt
