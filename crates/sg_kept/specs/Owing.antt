-- Which commands owe a flush: all that was changed so far is in the file before they are answered.
use Rattle.std.specs.Option.{option_map_or}
use Rattle.std.specs.Prelude.{ℕ, List, ◌∷◌, Bool, true, false, not, ◌&&◌, ◌||◌, ◌==◌, Option}
use Rattle.sg_pages.specs.ModePage.{caches_writes}
use Rattle.sg_wire.specs.Bits.{has_bit}
use Rattle.sg_target.specs.Armed.{Armed}
use Rattle.sg_target.specs.declared.operation.Operation.{Operation}
use Rattle.sg_target.specs.declared.operation.Operation.TheVariants.{Read, Verify, Compare, CompareEach}
use Rattle.sg_target.specs.declared.operation.Operation.TheVariants.{Write, CompareAndWrite, OrWrite}
use Rattle.sg_target.specs.declared.operation.Operation.TheVariants.{Synchronize, StartStop, UnmapAll}
use Rattle.sg_target.specs.declared.operation.Operation.TheVariants.{ChangeModes, ChangeReservations}

-- FUA is bit 3 of byte 1 of a CDB that reads or writes blocks, and has more than six bytes. READ(6) and
-- WRITE(6) have no such bit (SBC-3, 5.11 to 5.13 and 5.33 to 5.35).
abbrev pub forces_unit_access : (cdb : List ℕ) → Bool
forces_unit_access (code ∷ flags ∷ rest) = not (code == 0x08 || code == 0x0A) && has_bit flags 0x08
forces_unit_access _ = false

-- WRITE AND VERIFY (10), (12) and (16) read back from the medium what they wrote (SBC-3, 5.37 to 5.39).
abbrev pub writes_and_verifies : (cdb : List ℕ) → Bool
writes_and_verifies (code ∷ rest) = code == 0x2E || (code == 0xAE || code == 0x8E)
writes_and_verifies _ = false

abbrev pub owes_by : (cdb : List ℕ) → Operation → Bool
-- READ: with FUA the blocks are read from the medium, after what waits is written there
owes_by cdb (Read extent) = forces_unit_access cdb
-- VERIFY reads from the medium, too (SBC-3, 5.29 to 5.31).
owes_by cdb (Verify extent) = true
owes_by cdb (Compare out) = true
owes_by cdb (CompareEach extent block) = true
-- WRITE, WRITE ATOMIC, and WRITE AND VERIFY
owes_by cdb (Write out) = forces_unit_access cdb || writes_and_verifies cdb
-- COMPARE AND WRITE (SBC-3, 5.2) and ORWRITE (SBC-3, 5.5)
owes_by cdb (CompareAndWrite exchange) = forces_unit_access cdb
owes_by cdb (OrWrite out) = forces_unit_access cdb
-- SYNCHRONIZE CACHE (SBC-3, 5.26 and 5.27)
owes_by cdb (Synchronize extent) = true
-- START STOP UNIT (SBC-3, 5.25)
owes_by cdb (StartStop start) = true
-- FORMAT UNIT (SBC-3, 5.3) and SANITIZE (SBC-3, 5.24)
owes_by cdb (UnmapAll count) = true
-- MODE SELECT: saved pages are nonvolatile (SPC-4, 6.11), and before SWP takes effect, what the cache has is
-- written (SPC-4, 7.5).
owes_by cdb (ChangeModes width sp list) = true
-- PERSISTENT RESERVE OUT: what persists through a power loss is nonvolatile (SPC-4, 5.13.5)
owes_by cdb (ChangeReservations action scope_type list) = true
owes_by cdb _ = false

-- So does each command that leaves the write cache off (SBC-3, Caching mode page, WCE).
abbrev pub owes_flush : (after : Armed) → (cdb : List ℕ) → (executed : Option Operation) → Bool
owes_flush after cdb executed =
    not (caches_writes after.state.modes) || option_map_or (owes_by cdb) executed false
