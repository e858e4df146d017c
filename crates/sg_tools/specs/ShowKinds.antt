-- The kinds of answers, by the words of scripts (docs/SCRIPT.md).
use Rattle.std.specs.Prelude.{List, [], ◌∷◌, codes, Option, Some, None, ◌&&◌, if◌then◌else◌}
use Rattle.std.specs.Str.{bytes_eq}
use Rattle.clap.specs.Words.{Text}
use Rattle.sg_wire.specs.Profile.{is_in}
use Rattle.sg_wire.specs.declared.profile.Profile.{Profile}
use Rattle.sg_wire.specs.declared.profile.Profile.TheVariants.{Base, Extended}
use Rattle.sg_tools.specs.declared.show.Show.{Show}
use Rattle.sg_tools.specs.declared.show.Show.TheVariants.{Inquiry, Vpd, Modes6, Modes10, LbaStatus}
use Rattle.sg_tools.specs.declared.show.Show.TheVariants.{Keys, Reservation, Capabilities}
use Rattle.sg_tools.specs.declared.show.Show.TheVariants.{FullStatus, Sense}
use Rattle.sg_tools.specs.declared.show.Show.TheVariants.{ExtendedInquiry, ExtendedVpd}
use Rattle.sg_tools.specs.declared.show.Show.TheVariants.{ExtendedSense, Luns, AllCommands}
use Rattle.sg_tools.specs.declared.show.Show.TheVariants.{OneCommand, TaskManagement, LogPage}
use Rattle.sg_tools.specs.declared.show.Show.TheVariants.{Capacity10, Capacity16}
use Rattle.sg_tools.specs.declared.show.Show.TheVariants.{Defects10, Defects12}
use Rattle.sg_tools.specs.declared.show.Show.TheVariants.{ExtendedCapabilities}
use Rattle.sg_tools.specs.declared.show.Show.TheVariants.{ExtendedFullStatus}

-- A kind by its name, and the profile that it belongs to.
pub record ShowKind : Type 0 where
  pub profile : Profile
  pub name : Text
  pub show : Show

abbrev kind : Profile → Text → Show → ShowKind
kind profile name show = record { profile = profile; name = name; show = show }

abbrev pub extended_kinds : List ShowKind
extended_kinds =
    kind Extended (codes "luns") Luns
    ∷ kind Extended (codes "opcodes") AllCommands
    ∷ kind Extended (codes "opcode") OneCommand
    ∷ kind Extended (codes "tmf") TaskManagement
    ∷ kind Extended (codes "log") LogPage
    ∷ kind Extended (codes "readcap10") Capacity10
    ∷ kind Extended (codes "readcap16") Capacity16
    ∷ kind Extended (codes "defects10") Defects10
    ∷ kind Extended (codes "defects12") Defects12
    ∷ []

abbrev pub show_kinds : List ShowKind
show_kinds =
    kind Base (codes "inq") Inquiry
    ∷ kind Base (codes "vpd") Vpd
    ∷ kind Base (codes "modes6") Modes6
    ∷ kind Base (codes "modes10") Modes10
    ∷ kind Base (codes "lba") LbaStatus
    ∷ kind Base (codes "keys") Keys
    ∷ kind Base (codes "resv") Reservation
    ∷ kind Base (codes "caps") Capabilities
    ∷ kind Base (codes "full") FullStatus
    ∷ kind Base (codes "sense") Sense
    ∷ extended_kinds

-- How bytes of the kind with this name are shown, if a disk of the profile has the kind.
abbrev pub show_named : Profile → List ShowKind → Text → Option Show
show_named profile [] word = None
show_named profile (kind ∷ kinds) word =
    if is_in kind.profile profile && bytes_eq word kind.name
    then Some kind.show
    else show_named profile kinds word

-- How a disk of a profile shows what is shown so on a base disk. An extended disk shows more fields of
-- INQUIRY data, pages of vital product data, sense data, capabilities and full status.
abbrev pub shown_in : Profile → Show → Show
shown_in Base show = show
shown_in Extended Inquiry = ExtendedInquiry
shown_in Extended Vpd = ExtendedVpd
shown_in Extended Sense = ExtendedSense
shown_in Extended Capabilities = ExtendedCapabilities
shown_in Extended FullStatus = ExtendedFullStatus
shown_in Extended show = show
