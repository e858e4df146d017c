-- The kinds of answers, in the order of their numbers in the header, from 0 on.
use Rattle.std.specs.Prelude.{ℕ, List, [], ◌∷◌, Option, slice_get}
use Rattle.sg_tools.specs.declared.show.Show.{Show}
use Rattle.sg_tools.specs.declared.show.Show.TheVariants as show

-- Only a script on an extended disk shows those from ExtendedInquiry on.
abbrev pub kinds : List Show
kinds =
    show.Nothing
    ∷ show.Hex
    ∷ show.Inquiry
    ∷ show.Vpd
    ∷ show.Modes6
    ∷ show.Modes10
    ∷ show.LbaStatus
    ∷ show.LbaStatusBrief
    ∷ show.Keys
    ∷ show.Reservation
    ∷ show.Capabilities
    ∷ show.FullStatus
    ∷ show.Sense
    ∷ show.ExtendedInquiry
    ∷ show.ExtendedVpd
    ∷ show.ExtendedSense
    ∷ show.Luns
    ∷ show.AllCommands
    ∷ show.OneCommand
    ∷ show.TaskManagement
    ∷ show.LogPage
    ∷ show.Capacity10
    ∷ show.Capacity16
    ∷ show.Defects10
    ∷ show.Defects12
    ∷ show.ExtendedCapabilities
    ∷ show.ExtendedFullStatus
    ∷ []

abbrev pub kind_numbered : ℕ → Option Show
kind_numbered number = slice_get kinds number
