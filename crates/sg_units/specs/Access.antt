-- The commands that a persistent reservation allows (SPC-4, 5.13, and SBC-3, the tables of allowed
-- commands).
use Rattle.std.specs.Prelude.{ℕ, Bool, true, nat_le, Option, Some, None, if◌then◌else◌}
use Rattle.sg_wire.specs.declared.command.Class.{Class}
use Rattle.sg_wire.specs.declared.command.Class.TheVariants.{Always, Reads, Writes}
use Rattle.sg_units.specs.Registrations.{is_registered}
use Rattle.sg_units.specs.Reservations.{is_holder}
use Rattle.sg_units.specs.declared.access.Standing.{Standing}
use Rattle.sg_units.specs.declared.access.Standing.TheVariants.{Holder, Registrant, Unregistered}
use Rattle.sg_units.specs.declared.reservation.Reservation.{Reservation}
use Rattle.sg_units.specs.declared.reservation_state.ReservationState.{ReservationState}
use Rattle.sg_units.specs.declared.types.ReservationType.{ReservationType}
use Rattle.sg_units.specs.declared.types.ReservationType.TheVariants.{WriteExclusive, ExclusiveAccess}
use Rattle.sg_units.specs.declared.types.ReservationType.TheVariants.{WriteExclusiveRegistrantsOnly}
use Rattle.sg_units.specs.declared.types.ReservationType.TheVariants.{ExclusiveAccessRegistrantsOnly}
use Rattle.sg_units.specs.declared.types.ReservationType.TheVariants.{WriteExclusiveAllRegistrants}
use Rattle.sg_units.specs.declared.types.ReservationType.TheVariants.{ExclusiveAccessAllRegistrants}

-- The highest class of commands that is allowed: to a holder, to a registrant that is no holder,
-- and to an unregistered initiator. Under an all registrants type each registrant is a holder. The
-- standards list each command. `Layout.layout` has a class for each, which sums their tables up.
pub record Access : Type 0 where
  pub holder : Class
  pub registrant : Class
  pub unregistered : Class

abbrev row : (holder registrant unregistered : Class) → Access
row holder registrant unregistered =
    record { holder = holder; registrant = registrant; unregistered = unregistered }

abbrev pub access_of : ReservationType → Access
access_of WriteExclusive = row Writes Reads Reads
access_of ExclusiveAccess = row Writes Always Always
access_of WriteExclusiveRegistrantsOnly = row Writes Writes Reads
access_of ExclusiveAccessRegistrantsOnly = row Writes Writes Always
access_of WriteExclusiveAllRegistrants = row Writes Writes Reads
access_of ExclusiveAccessAllRegistrants = row Writes Writes Always

-- The classes in ascending order.
abbrev rank : Class → ℕ
rank Always = 0
rank Reads = 1
rank Writes = 2

abbrev pub is_within : (highest class : Class) → Bool
is_within highest class = nat_le (rank class) (rank highest)

-- The standing of the initiator that asks. SPC-4 speaks of its I_T nexus.
abbrev pub standing_of : ReservationState → (initiator : ℕ) → Standing
standing_of state initiator =
    if is_holder state initiator then Holder
    else (if is_registered state.registrations initiator then Registrant else Unregistered)

abbrev pub highest_class : Access → Standing → Class
highest_class access Holder = access.holder
highest_class access Registrant = access.registrant
highest_class access Unregistered = access.unregistered

abbrev pub allowed : Option Reservation → Standing → Class → Bool
allowed None standing class = true
allowed (Some reservation) standing class =
    is_within (highest_class (access_of reservation.kind) standing) class

-- An initiator's command of a class is allowed.
abbrev pub allows : ReservationState → (initiator : ℕ) → Class → Bool
allows state initiator class = allowed state.reservation (standing_of state initiator) class
