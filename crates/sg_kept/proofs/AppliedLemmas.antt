-- Changes that apply, each by itself and in turn.
use Rattle.std.proofs.Common.{◌≡◌, ◌≤◌, ℕ, ◌+◌, ◌*◌, Bool, true, false, cond, ◌&&◌, List, [], ◌∷◌}
use Rattle.std.proofs.Common.{length, map, Option, Some, None, refl, ap, ◌∙◌, eqb, arith}
use Rattle.std.proofs.lemmas.Bool.{eq-eqb, le-leb}
use Rattle.std.proofs.lemmas.Bool.Decides.{nat_tests}
use Rattle.std.specs.FinMap.{len}
use Rattle.std.specs.Prelude.{option_and_then}
use Rattle.sg_changes.specs.Change.{Change, applied, applied_all, with_disk, within_pool}
use Rattle.sg_changes.specs.Change.{has_range, restored}
use Rattle.sg_changes.specs.Change as change
use Rattle.sg_changes.specs.Change.Change.{Write, Fill, Anchor}
use Rattle.sg_changes.specs.KeptFields.{KeptFields}
use Rattle.sg_store.specs.Disk.{Contents, Disk, anchored, disk_anchored, disk_filled, disk_unmapped}
use Rattle.sg_store.specs.Disk.{disk_written, unmapped}
use Rattle.sg_target.specs.Extents.{AreOnDisk}
use Rattle.sg_target.specs.ProvisioningCommands.{changed_in_turn}
use Rattle.sg_units.specs.PowerOn.{after_power_on}
use Rattle.sg_units.specs.Reservations.{AreConsistent, IsConsistent}
use Rattle.sg_units.specs.declared.registrations.Registration.{Registration}
use Rattle.sg_units.specs.declared.reservation.Reservation.{Reservation}
use Rattle.sg_units.specs.declared.reservation_state.ReservationState.{ReservationState}
use Rattle.sg_units.proofs.RestoredLemmas.{consistent-passes}
use Rattle.sg_wire.specs.declared.extent.Extent.{Extent}
use Rattle.sg_kept.specs.Changes.{persistent, unmap}
use Rattle.sg_kept.proofs.BlocksLemmas.{anchored-le}

-- ---- Disks

if-both : {A : Type 0} (a b : Bool) (x y : A) → a ≡ true → b ≡ true → cond (a && b) x y ≡ x
if-both true b x y e f = ap (λ c. cond c x y) f
if-both false b x y e f = cc

in-pool : (disk : Disk) → len disk.contents ≤ disk.pool → within_pool disk ≡ Some disk
in-pool disk fits = grind (arith, nat_tests)

module _ (disk : Disk) (extent : Extent) where
  abbrev IsOnIt : Type 0
  IsOnIt = extent.lba + extent.count ≤ disk.capacity

  pub written-fits : (bytes : List ℕ) → IsOnIt → length bytes ≡ 512 * extent.count
      → len (disk_written disk extent.lba extent.count bytes).contents ≤ disk.pool
      → change.written disk extent bytes ≡ Some (disk_written disk extent.lba extent.count bytes)
  written-fits bytes there whole fits =
      let after = disk_written disk extent.lba extent.count bytes in
      if-both (has_range disk extent.lba extent.count) (eqb (length bytes) (512 * extent.count))
      (within_pool after) None (le-leb (extent.lba + extent.count) disk.capacity there)
      (eq-eqb (length bytes) (512 * extent.count) whole)
      ∙ in-pool after fits

  pub filled-fits : (block : List ℕ) → IsOnIt → length block ≡ 512
      → len (disk_filled disk extent.lba extent.count block).contents ≤ disk.pool
      → change.filled disk extent block ≡ Some (disk_filled disk extent.lba extent.count block)
  filled-fits block there whole fits =
      let after = disk_filled disk extent.lba extent.count block in
      if-both (has_range disk extent.lba extent.count) (eqb (length block) 512)
      (within_pool after) None (le-leb (extent.lba + extent.count) disk.capacity there)
      (eq-eqb (length block) 512 whole)
      ∙ in-pool after fits

  unmapped-there : IsOnIt
      → change.unmapped disk extent.lba extent.count ≡ Some (disk_unmapped disk extent.lba extent.count)
  unmapped-there there =
      ap (λ b. cond b (Some (disk_unmapped disk extent.lba extent.count)) None)
      (le-leb (extent.lba + extent.count) disk.capacity there)

  anchored-fits : IsOnIt
      → len (disk_anchored disk extent.lba extent.count).contents ≤ disk.pool
      → change.anchored disk extent ≡ Some (disk_anchored disk extent.lba extent.count)
  anchored-fits there fits =
      let after = disk_anchored disk extent.lba extent.count in
      ap (λ b. cond b (within_pool after) None)
      (le-leb (extent.lba + extent.count) disk.capacity there)
      ∙ in-pool after fits

-- ---- One change, and several

pub with-disk : (k : KeptFields) (found : Option Disk) (after : Disk) → found ≡ Some after
    → with_disk k found ≡ Some (record k { disk = after })
with-disk k found after e = ap (with_disk k) e

-- a change that applies, and those after it
pub next : (k after : KeptFields) (first : Change) (rest : List Change) → applied k first ≡ Some after
    → applied_all k (first ∷ rest) ≡ applied_all after rest
next k after first rest e = ap (option_and_then (λ left. applied_all left rest)) e

abbrev with_contents : KeptFields → Contents → KeptFields
with_contents k contents = record k { disk = record k.disk { contents = contents } }

pub unmaps-in-turn : (k : KeptFields) (extents : List Extent) → AreOnDisk k.disk.capacity extents
    → applied_all k (map unmap extents)
    ≡ Some (with_contents k (changed_in_turn unmapped k.disk.contents extents))
unmaps-in-turn k [] there = refl
unmaps-in-turn k (extent ∷ rest) there =
    let one = disk_unmapped k.disk extent.lba extent.count in
    next k (record k { disk = one }) (unmap extent) (map unmap rest)
    (with-disk k (change.unmapped k.disk extent.lba extent.count) one
    (unmapped-there k.disk extent there.0))
    ∙ unmaps-in-turn (record k { disk = one }) rest there.1

-- if all of them stay within the pool, each does
pub anchors-in-turn : (k : KeptFields) (extents : List Extent) → AreOnDisk k.disk.capacity extents
    → len (changed_in_turn anchored k.disk.contents extents) ≤ k.disk.pool
    → applied_all k (map Anchor extents)
    ≡ Some (with_contents k (changed_in_turn anchored k.disk.contents extents))
anchors-in-turn k [] there fits = refl
anchors-in-turn k (extent ∷ rest) there fits =
    let one = disk_anchored k.disk extent.lba extent.count in
    let fewer = anchored-le one.contents rest in
    next k (record k { disk = one }) (Anchor extent) (map Anchor rest)
    (with-disk k (change.anchored k.disk extent) one
    (anchored-fits k.disk extent there.0 (omega (arith, fewer, fits))))
    ∙ anchors-in-turn (record k { disk = one }) rest there.1 fits

-- ---- Reservations

abbrev pub reservations : List Registration → Option Reservation → (generation : ℕ) (persists : Bool)
    → ReservationState
reservations registrations reservation generation persists = record {
  registrations = registrations;
  reservation = reservation;
  generation = generation;
  persists_through_power_loss = persists;
}

consistent-left : (rs : List Registration) (held : Option Reservation) (generation : ℕ) (persists : Bool)
    → AreConsistent rs held
    → restored (persistent (reservations rs held generation persists))
    ≡ Some (after_power_on (reservations rs held generation persists))
consistent-left rs held generation true is =
    ap (λ b. cond b (Some (reservations rs held 0 true)) None) (consistent-passes rs held is)
consistent-left rs held generation false is = refl

-- what persists is there again after power on
pub restored-persistent : (r : ReservationState) → IsConsistent r
    → restored (persistent r) ≡ Some (after_power_on r)
restored-persistent r is =
    consistent-left r.registrations r.reservation r.generation r.persists_through_power_loss is
