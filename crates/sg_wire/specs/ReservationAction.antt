-- The service actions of PERSISTENT RESERVE IN and PERSISTENT RESERVE OUT (SPC-4, 6.15 and
-- 6.16).
use Rattle.std.specs.Prelude.{ℕ, ◌==◌, Bool, true, false, List, [], ◌∷◌, filter, find, Option}
use Rattle.sg_wire.specs.Profile.{is_in}
use Rattle.sg_wire.specs.declared.command.in_action.InAction.{InAction}
use Rattle.sg_wire.specs.declared.command.in_action.InAction.TheVariants.{ReadKeys, ReadReservation}
use Rattle.sg_wire.specs.declared.command.in_action.InAction.TheVariants.{ReportCapabilities}
use Rattle.sg_wire.specs.declared.command.in_action.InAction.TheVariants.{ReadFullStatus}
use Rattle.sg_wire.specs.declared.command.out_action.OutAction.{OutAction}
use Rattle.sg_wire.specs.declared.command.out_action.OutAction.TheVariants.{Register, Reserve}
use Rattle.sg_wire.specs.declared.command.out_action.OutAction.TheVariants.{Release, Clear, Preempt}
use Rattle.sg_wire.specs.declared.command.out_action.OutAction.TheVariants.{PreemptAndAbort}
use Rattle.sg_wire.specs.declared.command.out_action.OutAction.TheVariants.{RegisterAndIgnoreExistingKey}
use Rattle.sg_wire.specs.declared.command.out_action.OutAction.TheVariants.{RegisterAndMove}
use Rattle.sg_wire.specs.declared.profile.Profile.{Profile}
use Rattle.sg_wire.specs.declared.profile.Profile.TheVariants.{Base, Extended}

-- The code of each, in the SERVICE ACTION field.
abbrev pub in_code : InAction → ℕ
in_code ReadKeys = 0x00
in_code ReadReservation = 0x01
in_code ReportCapabilities = 0x02
in_code ReadFullStatus = 0x03

abbrev pub out_code : OutAction → ℕ
out_code Register = 0x00
out_code Reserve = 0x01
out_code Release = 0x02
out_code Clear = 0x03
out_code Preempt = 0x04
out_code PreemptAndAbort = 0x05
out_code RegisterAndIgnoreExistingKey = 0x06
out_code RegisterAndMove = 0x07

-- Whether a service action is for a SCOPE and a TYPE. The others ignore these fields (SPC-4, 6.16.2).
abbrev pub has_type : OutAction → Bool
has_type Register = false
has_type Reserve = true
has_type Release = true
has_type Clear = false
has_type Preempt = true
has_type PreemptAndAbort = true
has_type RegisterAndIgnoreExistingKey = false
has_type RegisterAndMove = false

abbrev pub each_in_action : List InAction
each_in_action = ReadKeys ∷ ReadReservation ∷ ReportCapabilities ∷ ReadFullStatus ∷ []

abbrev pub each_out_action : List OutAction
each_out_action =
    Register
    ∷ Reserve
    ∷ Release
    ∷ Clear
    ∷ Preempt
    ∷ PreemptAndAbort
    ∷ RegisterAndIgnoreExistingKey
    ∷ RegisterAndMove
    ∷ []

-- Those that a disk of a profile has. REGISTER AND MOVE belongs to the extended profile.
abbrev pub out_profile : OutAction → Profile
out_profile RegisterAndMove = Extended
out_profile action = Base

abbrev pub out_actions_of : Profile → List OutAction
out_actions_of profile = filter (λ action. is_in (out_profile action) profile) each_out_action

-- The service action with a code, on a disk of a profile.
abbrev pub in_action_with : ℕ → Option InAction
in_action_with code = find (λ action. code == in_code action) each_in_action

abbrev pub out_action_with : Profile → ℕ → Option OutAction
out_action_with profile code = find (λ action. code == out_code action) (out_actions_of profile)
