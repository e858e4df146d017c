-- The meaning of each operation: the blocks that it names, and its effect.
use Rattle.std.specs.Prelude.{ℕ, List, [], ◌∷◌, Bool, true, false, nat_lt, Option, Some, None, Result, Ok}
use Rattle.std.specs.List.{list_any}
use Rattle.sg_wire.specs.declared.extent.Extent.{Extent}
use Rattle.sg_target.specs.BlockCommands.{comparing, comparing_each, copying, destination_of, exchanging}
use Rattle.sg_target.specs.BlockCommands.{or_writing, reading, source_of}
use Rattle.sg_target.specs.BlockCommands.{writing}
use Rattle.sg_target.specs.Demands.{extent}
use Rattle.sg_pages.specs.CapacityData.{capacity_10, capacity_16}
use Rattle.sg_target.specs.Effect.{Effect, no_effect, returning, returning_up_to}
use Rattle.sg_target.specs.ModeCommands.{changing_modes, mode_parameters, selected_modes}
use Rattle.sg_pages.specs.Reports.{report_data}
use Rattle.sg_target.specs.PrimaryCommands.{returning_luns, returning_page, returning_sense}
use Rattle.sg_target.specs.ProvisioningCommands.{anchoring, filling, reporting_status, unmapping}
use Rattle.sg_target.specs.Refusal.{when_sound}
use Rattle.sg_target.specs.ReservationCommands.{changing_reservations, reporting, reservation_change}
use Rattle.sg_target.specs.StartStop.{starting_or_stopping}
use Rattle.sg_target.specs.State.{State, profile_of, resources_of}
use Rattle.sg_target.specs.declared.operation.Operation.{Operation}
use Rattle.sg_target.specs.declared.operation.Operation.TheVariants.{Nothing, ReturnSense}
use Rattle.sg_target.specs.declared.operation.Operation.TheVariants.{TestReady, StartStop}
use Rattle.sg_target.specs.declared.operation.Operation.TheVariants.{ReturnInquiry, ReturnModes}
use Rattle.sg_target.specs.declared.operation.Operation.TheVariants.{ChangeModes, ReturnCapacity10}
use Rattle.sg_target.specs.declared.operation.Operation.TheVariants.{ReturnCapacity16, Read, Write}
use Rattle.sg_target.specs.declared.operation.Operation.TheVariants.{Synchronize, Fill, Unmap}
use Rattle.sg_target.specs.declared.operation.Operation.TheVariants.{MarkBad, PreFetch}
use Rattle.sg_target.specs.declared.operation.Operation.TheVariants.{Verify, Compare, CompareEach}
use Rattle.sg_target.specs.declared.operation.Operation.TheVariants.{CompareAndWrite, Copy, OrWrite}
use Rattle.sg_target.specs.declared.operation.Operation.TheVariants.{ReturnLuns, ReturnReport}
use Rattle.sg_target.specs.declared.operation.Operation.TheVariants.{UnmapExtent, ReturnLbaStatus}
use Rattle.sg_target.specs.declared.operation.Operation.TheVariants.{UnmapAll}
use Rattle.sg_target.specs.declared.operation.Operation.TheVariants.{Anchor, AnchorExtent}
use Rattle.sg_target.specs.declared.operation.Operation.TheVariants.{ReturnReservations}
use Rattle.sg_target.specs.declared.operation.Operation.TheVariants.{ChangeReservations}
use Rattle.sg_target.specs.declared.refusal.Refusal.{Refusal}

-- ---- The medium

-- What an operation asks of the medium.
pub record MediumUse : Type 0 where
  -- the blocks that have to be on the disk, in the order of their checks
  pub extents : List Extent
  -- the blocks whose data it reads, before it writes any
  pub read : Option Extent
  -- the blocks that it writes, whatever they contain
  pub overwritten : List Extent
  -- whether it writes to the medium
  pub writes : Bool
  -- whether the unit has to be ready for it: a stopped unit is not
  pub needs_ready : Bool

-- An operation that names blocks, or a list that may be empty, needs a unit that is ready.
abbrev pub only_names : List Extent → MediumUse
only_names extents =
    record { extents = extents; read = None; overwritten = []; writes = false; needs_ready = true }

-- TEST UNIT READY needs it, too, and names no block.
abbrev pub only_needs_ready : MediumUse
only_needs_ready = only_names []

abbrev pub uses_no_block : MediumUse
uses_no_block = record only_needs_ready { needs_ready = false }

abbrev pub reads_from : Extent → MediumUse
reads_from extent = record (only_names (extent ∷ [])) { read = Some extent }

abbrev pub writes_to : List Extent → MediumUse
writes_to extents = record (only_names extents) { overwritten = extents; writes = true }

-- COMPARE AND WRITE and ORWRITE need what their blocks contain, so they overwrite none.
abbrev pub exchanges : Extent → MediumUse
exchanges extent = record (reads_from extent) { writes = true }

-- EXTENDED COPY overwrites its destination.
abbrev pub copies : (source destination : Extent) → MediumUse
copies source destination = record (writes_to (destination ∷ [])) {
  extents = source ∷ destination ∷ [];
  read = Some source;
}

abbrev pub names_some_block : List Extent → Bool
names_some_block = list_any (λ (extent : Extent). nat_lt 0 extent.count)

-- SYNCHRONIZE CACHE and PRE-FETCH have their extents checked, and GET LBA STATUS has to start at a block
-- of the disk. They read no data: the last returns which blocks are mapped or anchored.
abbrev pub medium_use : Operation → MediumUse
medium_use Nothing = uses_no_block
medium_use TestReady = only_needs_ready
medium_use (StartStop start) = uses_no_block
medium_use (ReturnSense format n) = uses_no_block
medium_use (ReturnInquiry page n) = uses_no_block
medium_use (ReturnModes request n) = uses_no_block
medium_use (ChangeModes width sp list) = uses_no_block
medium_use (ReturnLuns listed n) = uses_no_block
medium_use (ReturnReport report n) = uses_no_block
medium_use ReturnCapacity10 = uses_no_block
medium_use (ReturnCapacity16 n) = uses_no_block
medium_use (Read extent) = reads_from extent
medium_use (Write out) = writes_to (out.extent ∷ [])
medium_use (Verify extent) = reads_from extent
medium_use (Compare out) = reads_from out.extent
medium_use (CompareEach extent block) = reads_from extent
medium_use (CompareAndWrite exchange) = exchanges exchange.extent
medium_use (OrWrite out) = exchanges out.extent
medium_use (Copy segment) = copies (source_of segment) (destination_of segment)
medium_use (PreFetch extent) = only_names (extent ∷ [])
medium_use (Synchronize extent) = only_names (extent ∷ [])
medium_use (Fill extent block) = writes_to (extent ∷ [])
medium_use (MarkBad lba cor_dis) = writes_to (extent lba 1 ∷ [])
medium_use (Unmap extents) = writes_to extents
medium_use (UnmapExtent extent) = writes_to (extent ∷ [])
medium_use (UnmapAll blocks) = writes_to (extent 0 blocks ∷ [])
medium_use (Anchor extents) = writes_to extents
medium_use (AnchorExtent extent) = writes_to (extent ∷ [])
medium_use (ReturnLbaStatus start n) = only_names (extent start 1 ∷ [])
medium_use (ReturnReservations action n) = uses_no_block
medium_use (ChangeReservations action scope_type list) = uses_no_block

-- ---- The effect

-- The effect of an initiator's operation, or what is wrong with its page or its parameter list on a
-- disk in this state. SYNCHRONIZE CACHE and PRE-FETCH do nothing, because there is no cache, and a
-- VERIFY that compares nothing finds that its blocks can be read.
-- `MarkBad` is WRITE LONG: it arms a fault (`Armed`), and leaves the state. `Fill` is a WRITE SAME
-- that writes its block, and a WRITE SAME that unmaps or anchors is `UnmapExtent` or `AnchorExtent`.
-- FORMAT UNIT and the erases of SANITIZE are `UnmapAll`.
abbrev pub effect_of : State → (initiator : ℕ) → Operation → Result Effect Refusal
effect_of state i Nothing = Ok (no_effect state)
effect_of state i TestReady = Ok (no_effect state)
effect_of state i (StartStop start) = Ok (starting_or_stopping state start)
effect_of state i (ReturnSense format n) = Ok (returning_sense state i format n)
effect_of state i (ReturnInquiry page n) = Ok (returning_page state page n)
effect_of state i (ReturnModes request n) =
    when_sound (mode_parameters state.modes request) (returning_up_to state n)
effect_of state i (ChangeModes width sp list) =
    when_sound (selected_modes state width sp list) (changing_modes state i)
effect_of state i (ReturnLuns listed n) = Ok (returning_luns state i listed n)
effect_of state i (ReturnReport report n) =
    Ok (returning_up_to state n (report_data (profile_of state) (resources_of state) report))
effect_of state i ReturnCapacity10 = Ok (returning state (capacity_10 state.disk.capacity))
effect_of state i (ReturnCapacity16 n) =
    Ok (returning_up_to state n (capacity_16 state.disk.capacity state.identity.physical_block))
effect_of state i (Read extent) = Ok (reading state extent)
effect_of state i (Write out) = Ok (writing state out)
effect_of state i (Verify extent) = Ok (no_effect state)
effect_of state i (Compare out) = Ok (comparing state out)
effect_of state i (CompareEach extent block) = Ok (comparing_each state extent block)
effect_of state i (CompareAndWrite exchange) = Ok (exchanging state exchange)
effect_of state i (OrWrite out) = Ok (or_writing state out)
effect_of state i (Copy segment) = Ok (copying state segment)
effect_of state i (PreFetch extent) = Ok (no_effect state)
effect_of state i (Synchronize extent) = Ok (no_effect state)
effect_of state i (Fill extent block) = Ok (filling state extent block)
effect_of state i (MarkBad lba cor_dis) = Ok (no_effect state)
effect_of state i (Unmap extents) = Ok (unmapping state extents)
effect_of state i (UnmapExtent extent) = Ok (unmapping state (extent ∷ []))
effect_of state i (UnmapAll blocks) = Ok (unmapping state (extent 0 blocks ∷ []))
effect_of state i (Anchor extents) = Ok (anchoring state extents)
effect_of state i (AnchorExtent extent) = Ok (anchoring state (extent ∷ []))
effect_of state i (ReturnLbaStatus start n) = Ok (reporting_status state start n)
effect_of state i (ReturnReservations action n) = Ok (reporting state action n)
effect_of state i (ChangeReservations action scope_type list) =
    when_sound (reservation_change state i action scope_type list) (changing_reservations state i)
