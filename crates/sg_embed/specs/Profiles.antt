-- The profile of a new disk: its number in the header, and the identity that a disk of it has.
use Rattle.std.specs.Prelude.{ℕ, true, false, List, [], ◌∷◌, Option, Some, None, Result, Ok, Err}
use Rattle.std.specs.Prelude.{slice_get}
use Rattle.sg_wire.specs.declared.profile.Profile.TheVariants.{Base, Extended}
use Rattle.sg_pages.specs.Identity.{IdentityFields}
use Rattle.sg_pages.specs.declared.identity.IdentityFault.{IdentityFault}
use Rattle.sg_pages.specs.declared.physical_block.PhysicalBlock.TheVariants.{Of512, Of4096}
use Rattle.sg_embed.specs.Outcome.{identity_outcome}
use Rattle.sg_embed.specs.declared.outcome.Outcome.{Outcome}
use Rattle.sg_embed.specs.declared.outcome.Outcome.TheVariants.{UnknownProfile}
use Rattle.sg_kept.specs.Asked.{asked_profile, of_profile}
use Rattle.sg_kept.specs.declared.asked.AskedProfile.{AskedProfile}

-- In the order of their numbers in the header, from 0 on.
abbrev pub profiles : List AskedProfile
profiles =
    asked_profile Base false Of512
    ∷ asked_profile Extended false Of512
    ∷ asked_profile Extended true Of512
    ∷ asked_profile Extended false Of4096
    ∷ []

abbrev pub profile_numbered : ℕ → Option AskedProfile
profile_numbered number = slice_get profiles number

abbrev pub with_profile : AskedProfile → Result IdentityFields IdentityFault
    → Result IdentityFields Outcome
with_profile asked (Ok names) = Ok (of_profile asked names)
with_profile asked (Err fault) = Err (identity_outcome fault)

abbrev pub with_known_profile : Option AskedProfile → Result IdentityFields IdentityFault
    → Result IdentityFields Outcome
with_known_profile None identity = Err UnknownProfile
with_known_profile (Some asked) identity = with_profile asked identity

-- An identity with the profile that has a number, or why it is refused. The profile is checked
-- first.
abbrev pub identity_with_profile : (number : ℕ) → Result IdentityFields IdentityFault
    → Result IdentityFields Outcome
identity_with_profile number identity = with_known_profile (profile_numbered number) identity
