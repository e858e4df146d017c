-- The request that the words of the command line make (docs/SCRIPT.md). Of two stops, the first in
-- this order is returned: `Usage`; `Number`; `Profile`; and then, for a new disk, `Seed`, `Blocks` and
-- `Pool`, in the order of a disk's checks.
use Rattle.std.specs.Prelude.{◌≡◌, ◌⊎◌, ℕ, ◌^◌, ◌-◌, List, codes, Option, Some, None, Result, Ok}
use Rattle.std.specs.Prelude.{Err, [], ◌∷◌, bytes_eq, find, Bool, true, false, not, ◌&&◌, is_some}
use Rattle.std.specs.Prelude.{if◌then◌else◌, option_map}
use Rattle.std.specs.List.{list_any}
use Rattle.std.specs.Option.{unwrap_or}
use Rattle.clap.specs.Words.{Row, Text}
use Rattle.sg_wire.specs.declared.profile.Profile.{Profile}
use Rattle.sg_wire.specs.declared.profile.Profile.TheVariants.{Base, Extended}
use Rattle.sg_wire.specs.Profile.{is_in}
use Rattle.sg_pages.specs.declared.physical_block.PhysicalBlock.{PhysicalBlock}
use Rattle.sg_pages.specs.declared.physical_block.PhysicalBlock.TheVariants.{Of512, Of4096}
use Rattle.sg_pages.specs.Identity.{IdentityFields}
use Rattle.sg_pages.specs.NewIdentity.{identity_of_seed}
use Rattle.sg_pages.specs.declared.identity.IdentityFault.{IdentityFault}
use Rattle.sg_kept.specs.Asked.{asked_profile, of_profile}
use Rattle.sg_kept.specs.declared.asked.AskedProfile.{AskedProfile}
use Rattle.sg_target.specs.Config.{ConfigFields, checked_config}
use Rattle.sg_target.specs.declared.config.ConfigFault.{ConfigFault}
use Rattle.sg_tools.specs.GivenOptions.{given_options, text_of}
use Rattle.sg_tools.specs.OptionTexts.{number_or}
use Rattle.sg_tools.specs.declared.tool_fault.ToolFault.{ToolFault}
use Rattle.sg_tools.specs.Options.{OptionRow}
use Rattle.sgrun.specs.Options.{command_line, run_options}
use Rattle.sgrun.specs.declared.disk_options.DiskOptions.{DiskOptions}
use Rattle.sgrun.specs.Stops.{stop_of_config, stop_of_identity, stop_of_options}
use Rattle.sgrun.specs.declared.stop.Stop.{Stop}
use Rattle.sgrun.specs.declared.stop.Stop.TheVariants.{Usage, Number, OutOfMemory}
use Rattle.sgrun.specs.declared.stop.Stop.TheVariants.{Profile as BadProfile}

-- ---- The disk

abbrev pub default_blocks : ℕ
default_blocks = 4096

abbrev pub default_pool : ℕ
default_pool = 4

-- Its identity is the default one.
abbrev pub default_seed : ℕ
default_seed = 1

-- A name of `--profile`, and what a disk of it has: its profile, whether it takes less data-out than a
-- command needs, and its physical blocks.
pub record ProfileRow : Type 0 where
  pub name : List ℕ
  pub asked : AskedProfile

abbrev pub profile_row : List ℕ → Profile → (takes_short_data_out : Bool) → PhysicalBlock → ProfileRow
profile_row name profile takes_short_data_out physical_block = record {
  name = name;
  asked = asked_profile profile takes_short_data_out physical_block;
}

-- One row for each name.
abbrev pub profiles : List ProfileRow
profiles =
    profile_row (codes "base") Base false Of512
    ∷ profile_row (codes "extended") Extended false Of512
    ∷ profile_row (codes "extended-cut") Extended true Of512
    ∷ profile_row (codes "extended-512e") Extended false Of4096
    ∷ []

-- What a name says of a disk. Without a name it is a disk of the base profile.
abbrev pub profile_named : Option Text → Option AskedProfile
profile_named None = Some (asked_profile Base false Of512)
profile_named (Some name) =
    option_map (λ row. row.asked) (find (λ row. bytes_eq name row.name) profiles)

-- Only a disk of the extended profile takes a seed.
abbrev pub takes_seed : Option AskedProfile → Bool
takes_seed None = false
takes_seed (Some asked) = is_in Extended asked.profile

-- A disk with the names of a seed, and with what a name of `--profile` says of it.
abbrev pub disk_with : (blocks pool : ℕ) → AskedProfile → IdentityFields → ConfigFields
disk_with blocks pool asked names = record {
  blocks = blocks;
  pool = pool;
  identity = of_profile asked names;
}

abbrev pub by_config : Result ConfigFields ConfigFault → Result ConfigFields Stop
by_config (Ok disk) = Ok disk
by_config (Err fault) = Err (stop_of_config fault)

-- Its numbers have to be in range.
abbrev pub checked_disk : (blocks pool : ℕ) → AskedProfile → Result IdentityFields IdentityFault
    → Result ConfigFields Stop
checked_disk blocks pool asked (Err fault) = Err (stop_of_identity fault)
checked_disk blocks pool asked (Ok names) =
    by_config (checked_config (disk_with blocks pool asked names))

-- The number of an option's text, which may be missing. None if the text is no number.
abbrev pub number_of_option : Option Text → Option (Option ℕ)
number_of_option None = Some None
number_of_option (Some text) = option_map Some (number_or 0 (2 ^ 64 - 1) (Some text))

abbrev pub with_number : Option (Option ℕ) → (Option ℕ → Result DiskOptions Stop)
    → Result DiskOptions Stop
with_number None disk = Err Number
with_number (Some number) disk = disk number

abbrev pub with_profile : Option AskedProfile → (AskedProfile → Result DiskOptions Stop)
    → Result DiskOptions Stop
with_profile None disk = Err BadProfile
with_profile (Some asked) disk = disk asked

-- The numbers are read before the profile.
abbrev pub disk_by : Option AskedProfile → List Row → Result DiskOptions Stop
disk_by profile rows =
    with_number (number_of_option (text_of (codes "blocks") rows)) (λ blocks.
    with_number (number_of_option (text_of (codes "pool") rows)) (λ pool.
    with_number (number_of_option (text_of (codes "seed") rows)) (λ seed.
    with_profile profile (λ asked.
    Ok (record {
      blocks = blocks;
      pool = pool;
      profile = option_map (λ name. asked) (text_of (codes "profile") rows);
      seed = seed;
    })))))

-- A seed that the profile does not take is refused first, as an option that does not exist is.
abbrev pub disk_options : List Row → Result DiskOptions Stop
disk_options rows =
    let profile = profile_named (text_of (codes "profile") rows) in
    if is_some (text_of (codes "seed") rows) && not (takes_seed profile) then Err Usage
    else disk_by profile rows

-- The new disk that options ask for.
abbrev pub config_of : DiskOptions → Result ConfigFields Stop
config_of options =
    checked_disk (unwrap_or options.blocks default_blocks) (unwrap_or options.pool default_pool)
    (unwrap_or options.profile (asked_profile Base false Of512))
    (identity_of_seed (unwrap_or options.seed default_seed))

-- ---- Every option

-- What the options say of the disk, the file that keeps it, and the file that holds the script. None
-- is a new disk in memory, and standard input. Then the file whose disk is shown, if one is.
pub record ArgumentFields : Type 0 where
  pub disk : DiskOptions
  pub file : Option Text
  pub script : Option Text
  pub shown : Option Text

abbrev pub with_files : (file script shown : Option Text) → Result DiskOptions Stop
    → Result ArgumentFields Stop
with_files file script shown (Err stop) = Err stop
with_files file script shown (Ok disk) =
    Ok (record { disk = disk; file = file; script = script; shown = shown })

-- An option of a run is given.
abbrev pub gives_run_option : List Row → Bool
gives_run_option rows =
    list_any (λ (option : OptionRow). is_some (text_of option.long rows)) run_options

-- If a disk is shown, nothing is run.
abbrev pub arguments_of : List Row → Result ArgumentFields Stop
arguments_of rows =
    let shown = text_of (codes "show-disk") rows in
    if is_some shown && gives_run_option rows then Err Usage
    else with_files (text_of (codes "disk") rows) (text_of (codes "script") rows) shown
    (disk_options rows)

abbrev pub arguments_by : Result (List Row) ToolFault → Result ArgumentFields Stop
arguments_by (Err fault) = Err (stop_of_options fault)
arguments_by (Ok rows) = arguments_of rows

-- The disk and the file that words ask for, or why there is nothing to run. The first word is the
-- program's name.
unfoldable pub arguments : (words : List Text) → Result ArgumentFields Stop
arguments words = arguments_by (given_options command_line words)

-- The result is the expected one, unless memory was refused.
abbrev pub IsUnlessOutOfMemory : {A : Type 0} → (expected result : Result A Stop) → Type 0
IsUnlessOutOfMemory expected result = (result ≡ expected) ⊎ (result ≡ Err OutOfMemory)
