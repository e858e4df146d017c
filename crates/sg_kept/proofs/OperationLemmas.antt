-- The changes of each operation.
use Rattle.std.proofs.Common.{◌≡◌, ◌≤◌, ℕ, ◌*◌, List, [], ◌∷◌, length, take, Some, Result, Ok, Err}
use Rattle.std.proofs.Common.{refl, ap, ◌∙◌, arith}
use Rattle.std.proofs.lemmas.List.{length-take-le}
use Rattle.std.specs.FinMap.{len}
use Rattle.std.specs.Prelude.{IfOk, option_map}
use Rattle.sg_changes.specs.Change.{Change, applied_all}
use Rattle.sg_changes.specs.Change as change
use Rattle.sg_changes.specs.Change.Change.{Write as Written, Fill as Filled, Pages, Reservations}
use Rattle.sg_changes.specs.KeptFields.{KeptFields}
use Rattle.sg_changes.proofs.SnapshotLemmas.{length-blocks}
use Rattle.sg_faults.specs.Faults.{Faults}
use Rattle.sg_store.specs.Disk.{Contents, IsWellFormed, blocks, disk_filled, disk_written, written}
use Rattle.sg_target.specs.BlockCommands.{copied, copied_block, destination_of, ored, ored_block}
use Rattle.sg_target.specs.Demands.{extent}
use Rattle.sg_target.specs.Effect.{Effect}
use Rattle.sg_target.specs.Extents.{AreOnDisk}
use Rattle.sg_target.specs.Refusal.{when_sound}
use Rattle.sg_target.specs.Semantics.{effect_of, medium_use}
use Rattle.sg_target.specs.State.{IsWithinLimits, State}
use Rattle.sg_target.specs.declared.operation.Operation.{Operation}
use Rattle.sg_target.specs.declared.operation.Operation.TheVariants as operation
use Rattle.sg_target.specs.declared.refusal.Refusal.{Refusal}
use Rattle.sg_units.specs.PowerOn.{after_power_on}
use Rattle.sg_units.specs.Reservations.{IsConsistent}
use Rattle.sg_units.specs.ReserveOut.{state_after}
use Rattle.sg_units.specs.declared.reservation_state.ReservationState.{ReservationState}
use Rattle.sg_wire.specs.FirstBytes.{first_bytes}
use Rattle.sg_wire.specs.declared.extent.Extent.{Extent}
use Rattle.sg_kept.specs.Changes.{changes_of, persistent}
use Rattle.sg_kept.specs.Kept.{kept}
use Rattle.sg_kept.specs.Laws.{HasItsBytes, OperationsMakeTheirChanges}
use Rattle.sg_kept.proofs.AppliedLemmas.{anchors-in-turn, filled-fits, next, restored-persistent}
use Rattle.sg_kept.proofs.AppliedLemmas.{unmaps-in-turn, with-disk, written-fits}
use Rattle.sg_kept.proofs.BlocksLemmas.{written-first, written-replaced}

-- the result that an operation needs, from each value that it may have found
sound-makes : {A : Type 0} (P : Effect → Type 0) (found : Result A Refusal) (becomes : A → Effect)
    → ((value : A) → P (becomes value)) → IfOk (when_sound found becomes) P
sound-makes P (Ok value) becomes h = h value
sound-makes P (Err refusal) becomes h = tt

-- ---- One change to the blocks

module _ (k : KeptFields) (extent : Extent) where
  abbrev IsOnDisk : Type 0
  IsOnDisk = AreOnDisk k.disk.capacity (extent ∷ [])

  abbrev Leaves : Change → Contents → Type 0
  Leaves one contents = len contents ≤ k.disk.pool
      → applied_all k (one ∷ []) ≡ Some (record k { disk = record k.disk { contents = contents } })

  abbrev after_write : List ℕ → Contents
  after_write bytes = written k.disk.contents extent.lba extent.count bytes

  writes : (bytes : List ℕ) → IsOnDisk → length bytes ≡ 512 * extent.count
      → Leaves (Written extent bytes) (after_write bytes)
  writes bytes there whole fits =
      let after = disk_written k.disk extent.lba extent.count bytes in
      next k (record k { disk = after }) (Written extent bytes) []
      (with-disk k (change.written k.disk extent bytes) after
      (written-fits k.disk extent bytes there.0 whole fits))

  fills : (block : List ℕ) → IsOnDisk → length block ≡ 512
      → Leaves (Filled extent block) (disk_filled k.disk extent.lba extent.count block).contents
  fills block there whole fits =
      let after = disk_filled k.disk extent.lba extent.count block in
      next k (record k { disk = after }) (Filled extent block) []
      (with-disk k (change.filled k.disk extent block) after
      (filled-fits k.disk extent block there.0 whole fits))

  -- blocks that leave these contents in another way
  writes-as : (bytes : List ℕ) (contents : Contents) → IsOnDisk → length bytes ≡ 512 * extent.count
      → after_write bytes ≡ contents → Leaves (Written extent bytes) contents
  writes-as bytes contents there whole same fits =
      let as_many = ap len same in
      writes bytes there whole (omega (arith, as_many, fits))
      ∙ ap (λ (m : Contents). Some (record k { disk = record k.disk { contents = m } })) same

  -- COMPARE AND WRITE has the bytes of its blocks, and perhaps more
  exchanges : (bytes : List ℕ) → IsOnDisk → 512 * extent.count ≤ length bytes
      → Leaves (Written extent (first_bytes (512 * extent.count) bytes)) (after_write bytes)
  exchanges bytes there long =
      writes-as (take (512 * extent.count) bytes) (after_write bytes) there
      (length-take-le (512 * extent.count) bytes long)
      (written-first k.disk.contents extent.lba extent.count bytes)

-- ---- The change to the reservations

restores : (k : KeptFields) (r : ReservationState) → IsConsistent r
    → applied_all k (Reservations (persistent r) ∷ [])
    ≡ Some (record k { reservations = after_power_on r })
restores k r is =
    next k (record k { reservations = after_power_on r }) (Reservations (persistent r)) []
    (ap (option_map (λ left. record k { reservations = left })) (restored-persistent r is))

-- ---- Each operation

-- A state within its limits, whatever unit attentions are pending.
pub record FitsTables (after : State) : Type 0 where
  pub used : len after.disk.contents ≤ after.disk.pool
  pub registered : IsConsistent after.reservations
  pub blocks : IsWellFormed after.disk.capacity after.disk.contents

pub fits : (after : State) → IsWithinLimits after → FitsTables after
fits after limits =
    record { used = limits.used; registered = limits.registered; blocks = limits.blocks }

module _ (state : State) (faults : Faults) where
  abbrev before : KeptFields
  before = kept (record { state = state; faults = faults })

  abbrev Makes : Operation → Effect → Type 0
  Makes operation effect = FitsTables effect.after
      → applied_all before (changes_of effect.after operation)
      ≡ Some (kept (record { state = effect.after; faults = faults }))

  pub made : (i : ℕ) (o : Operation) → HasItsBytes o → AreOnDisk state.disk.capacity (medium_use o).extents
      → IfOk (effect_of state i o) (Makes o)
  made i (operation.Write out) whole there =
      λ limits. writes before out.extent out.bytes there whole limits.used
  made i (operation.CompareAndWrite exchange) whole there =
      λ limits. exchanges before exchange.extent exchange.replacement there whole limits.used
  made i (operation.OrWrite out) whole there =
      λ limits.
      let contents = ored state.disk.contents out in
      writes-as before out.extent (blocks contents out.extent.lba out.extent.count) contents there
      (length-blocks state.disk.capacity contents limits.blocks out.extent.lba out.extent.count)
      (written-replaced state.disk.capacity state.disk.contents out.extent.lba out.extent.count
      (ored_block state.disk.contents out) limits.blocks)
      limits.used
  made i (operation.Copy segment) whole there =
      λ limits.
      let contents = copied state.disk.contents segment in
      writes-as before (destination_of segment) (blocks contents segment.destination segment.blocks) contents
      there.1
      (length-blocks state.disk.capacity contents limits.blocks segment.destination segment.blocks)
      (written-replaced state.disk.capacity state.disk.contents segment.destination segment.blocks
      (copied_block state.disk.contents segment) limits.blocks)
      limits.used
  made i (operation.Fill range block) whole there =
      λ limits. fills before range block there whole limits.used
  made i (operation.Unmap extents) whole there = λ limits. unmaps-in-turn before extents there
  made i (operation.UnmapExtent range) whole there =
      λ limits. unmaps-in-turn before (range ∷ []) there
  made i (operation.UnmapAll count) whole there =
      λ limits. unmaps-in-turn before (extent 0 count ∷ []) there
  made i (operation.Anchor extents) whole there =
      λ limits. anchors-in-turn before extents there limits.used
  made i (operation.AnchorExtent range) whole there =
      λ limits. anchors-in-turn before (range ∷ []) there limits.used
  made i (operation.ReturnModes request n) whole there =
      sound-makes (Makes (operation.ReturnModes request n)) _ _ (λ list limits. refl)
  made i (operation.ChangeModes width sp list) whole there =
      sound-makes (Makes (operation.ChangeModes width sp list)) _ _ (λ modes limits. refl)
  made i (operation.ChangeReservations action scope_type list) whole there =
      sound-makes (Makes (operation.ChangeReservations action scope_type list)) _ _
      (λ change limits.
      restores before (state_after state.reservations (Ok change)) limits.registered)
  made i _ whole there = λ limits. refl

by-limits : (state : State) (faults : Faults) (o : Operation) (found : Result Effect Refusal)
    → IfOk found (Makes state faults o)
    → IfOk found (λ effect. IsWithinLimits effect.after
    → applied_all (kept (record { state = state; faults = faults })) (changes_of effect.after o)
    ≡ Some (kept (record { state = effect.after; faults = faults })))
by-limits state faults o (Ok effect) h = λ limits. h (fits effect.after limits)
by-limits state faults o (Err refusal) h = h

pub make-their-changes : OperationsMakeTheirChanges
make-their-changes state faults i o whole there =
    by-limits state faults o (effect_of state i o) (made state faults i o whole there)
