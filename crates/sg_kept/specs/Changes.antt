-- What operations, commands and happenings change of what is kept.
use Rattle.std.specs.Option.{option_map_or}
use Rattle.std.specs.Prelude.{List, [], ◌∷◌, ◌++◌, Option, Some, None, map, nat_lt, ◌||◌}
use Rattle.std.specs.Prelude.{if◌then◌else◌}
use Rattle.sg_changes.specs.Change.{Change, Persistent}
use Rattle.sg_changes.specs.Change.Change.{Write as Written, Fill as Filled, Unmap as Unmapped}
use Rattle.sg_changes.specs.Change.Change.{Anchor as Anchored, Pages, Reservations}
use Rattle.sg_changes.specs.Change.Change.{Faults as FaultTable, Grow as Grown}
use Rattle.sg_faults.specs.Faults.{Faults, is_armed}
use Rattle.sg_store.specs.Disk.{blocks}
use Rattle.sg_target.specs.Armed.{Armed}
use Rattle.sg_target.specs.BlockCommands.{bytes_of, destination_of}
use Rattle.sg_target.specs.State.{State}
use Rattle.sg_target.specs.declared.happening.Happening.{Happening}
use Rattle.sg_target.specs.declared.happening.Happening.TheVariants.{Grow, Arm, Disarm, DisarmAll}
use Rattle.sg_target.specs.declared.operation.Operation.{Operation}
use Rattle.sg_target.specs.declared.operation.Operation.TheVariants.{Write, CompareAndWrite, Copy, OrWrite}
use Rattle.sg_target.specs.declared.operation.Operation.TheVariants.{Fill, Unmap, UnmapExtent, UnmapAll}
use Rattle.sg_target.specs.declared.operation.Operation.TheVariants.{Anchor, AnchorExtent, ChangeModes}
use Rattle.sg_target.specs.declared.operation.Operation.TheVariants.{ChangeReservations}
use Rattle.sg_units.specs.declared.reservation_state.ReservationState.{ReservationState}
use Rattle.sg_wire.specs.declared.extent.Extent.{Extent}
use Rattle.sg_wire.specs.FirstBytes.{first_bytes}

-- Registrations and reservation, if a power loss leaves them.
abbrev pub persistent : ReservationState → Option Persistent
persistent r =
    if r.persists_through_power_loss
    then Some (record { registrations = r.registrations; reservation = r.reservation }) else None

abbrev pub unmap : Extent → Change
unmap extent = Unmapped extent.lba extent.count

-- The changes of an operation that has left this state. An ORWRITE and an EXTENDED COPY change the blocks
-- that they write to what these have after it. The other operations change nothing that is kept, except that
-- WRITE LONG arms a fault.
abbrev pub changes_of : (after : State) → Operation → List Change
changes_of after (Write out) = Written out.extent out.bytes ∷ []
changes_of after (CompareAndWrite exchange) =
    Written exchange.extent (first_bytes (bytes_of exchange.extent) exchange.replacement) ∷ []
changes_of after (OrWrite out) =
    Written out.extent (blocks after.disk.contents out.extent.lba out.extent.count) ∷ []
changes_of after (Copy segment) =
    Written (destination_of segment) (blocks after.disk.contents segment.destination segment.blocks) ∷ []
changes_of after (Fill extent block) = Filled extent block ∷ []
changes_of after (Unmap extents) = map unmap extents
changes_of after (UnmapExtent extent) = unmap extent ∷ []
changes_of after (UnmapAll count) = Unmapped 0 count ∷ []
changes_of after (Anchor extents) = map Anchored extents
changes_of after (AnchorExtent extent) = Anchored extent ∷ []
changes_of after (ChangeModes width sp list) = Pages after.modes.saved ∷ []
changes_of after (ChangeReservations action scope_type list) =
    Reservations (persistent after.reservations) ∷ []
changes_of after _ = []

-- The table of faults is kept whole, if a fault is armed before a command or after it.
abbrev pub fault_changes : (before after : Faults) → List Change
fault_changes before after =
    if is_armed before || is_armed after then FaultTable after ∷ [] else []

-- The changes of a command: first those of the operation that it has executed, then the table of
-- faults. A refused command has executed none.
abbrev pub command_changes : (before after : Armed) → (executed : Option Operation) → List Change
command_changes before after executed =
    option_map_or (changes_of after.state) executed [] ++ fault_changes before.faults after.faults

-- A disk that gets no more addresses keeps its capacity.
abbrev pub growth_changes : (before after : Armed) → List Change
growth_changes before after =
    if nat_lt before.state.disk.capacity after.state.disk.capacity
    then Grown after.state.disk.capacity ∷ [] else []

-- The changes of a happening. Resets, power cycles and unit attentions change nothing that is kept.
abbrev pub happening_changes : (before after : Armed) → Happening → List Change
happening_changes before after (Grow capacity) = growth_changes before after
happening_changes before after (Arm fault) = FaultTable after.faults ∷ []
happening_changes before after (Disarm number) = FaultTable after.faults ∷ []
happening_changes before after DisarmAll = FaultTable after.faults ∷ []
happening_changes before after _ = []
