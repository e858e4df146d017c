-- Laws of CDBs, of answers that are put in parts, and of CDB USAGE DATA.
use Rattle.std.specs.Prelude.{◌≡◌, ◌≢◌, ◌<◌, ◌≤◌, ℕ, ◌^◌, ◌==◌, List, [], ◌++◌, length, map, take}
use Rattle.std.specs.Prelude.{Some, Ok, Err, Bool, true, false, not, ◌&&◌, ◌||◌, if◌then◌else◌}
use Rattle.std.specs.Prelude.{bit_and, find, slice_index}
use Rattle.std.specs.List.{Contains, list_all, list_any}
use Rattle.std.specs.Borrow.{GName}
use Rattle.sg_wire.specs.Bits.{has_bit}
use Rattle.sg_wire.specs.CdbFields.{Field, Place, allows_field, mask_in}
use Rattle.sg_wire.specs.Cut.{IsLeftIn, Puts, answer_of}
use Rattle.sg_wire.specs.CutAnswer.{CutAnswer, empty_answer, put, replace}
use Rattle.sg_wire.specs.FirstBytes.{first_bytes, overwritten}
use Rattle.sg_wire.specs.CdbDecoding.{action_places, class_in, command_in, first_bad, has_action_of}
use Rattle.sg_wire.specs.CdbDecoding.{is_blocked_in, mask_of, masks, rows_in}
use Rattle.sg_wire.specs.CdbEncoding.{cdb_of}
use Rattle.sg_wire.specs.Layout.{Layout, layout, length_of}
use Rattle.sg_wire.specs.Profile.{is_in}
use Rattle.sg_wire.specs.SupportedOperations.{rows_of, usage_data}
use Rattle.sg_wire.specs.declared.command.CdbFault.{CdbFault}
use Rattle.sg_wire.specs.declared.command.CdbFault.TheVariants.{Empty, Short}
use Rattle.sg_wire.specs.declared.command.Command.{Command}
use Rattle.sg_wire.specs.declared.cut.Cut.{Cut}
use Rattle.sg_wire.specs.declared.profile.Profile.{Profile}
use Rattle.sg_wire.specs.declared.profile.Profile.TheVariants.{Base, Extended}

-- ---- Profiles

-- A disk of a profile has a command: the command's row, and each of its fields that is not zero.
abbrev pub has_command : Profile → Command → Bool
has_command profile command =
    let l = layout command in
    list_all (allows_field profile) l.fields && is_in l.profile profile

-- A CDB is read as a command on each disk that has the command.
abbrev pub IsReadAs : List ℕ → Command → Type 0
IsReadAs cdb command =
    (profile : Profile) → has_command profile command ≡ true → command_in profile cdb ≡ Ok command

-- A disk reads no CDB as a command that its profile lacks. So the base profile is closed.
abbrev pub ProfilesAreClosed : Type 0
ProfilesAreClosed =
    (profile : Profile) (cdb : List ℕ) (command : Command)
    → command_in profile cdb ≡ Ok command → has_command profile command ≡ true

-- A profile only adds: a CDB that is a command in one profile is the same command in each profile
-- that has it, and of the same class. The CDB has the same row. A unit attention blocks it in both
-- profiles or in neither. An extended disk allows each bit of a CDB that a base disk allows.
pub record ProfilesOnlyAdd : Type 0 where
  pub command : (profile : Profile) (cdb : List ℕ) (command : Command)
      → command_in profile cdb ≡ Ok command → IsReadAs cdb command
  pub class : (one other : Profile) (cdb : List ℕ) (command : Command)
      → command_in one cdb ≡ Ok command → has_command other command ≡ true
      → class_in other cdb ≡ class_in one cdb
  pub row : (one other : Profile) (cdb : List ℕ) (command : Command)
      → command_in one cdb ≡ Ok command → has_command other command ≡ true
      → find (has_action_of cdb) (rows_in other (layout command).opcode)
      ≡ find (has_action_of cdb) (rows_in one (layout command).opcode)
  pub attention : (one other : Profile) (cdb : List ℕ) (command : Command)
      → command_in one cdb ≡ Ok command → has_command other command ≡ true
      → is_blocked_in other cdb ≡ is_blocked_in one cdb
  pub bits : (l : Layout) (k : ℕ) → Contains (rows_of Base) l → k < length_of l.opcode
      → bit_and (mask_of Base l k) (mask_of Extended l k) ≡ mask_of Base l k

-- ---- CDBs

-- The fault of a CDB that ends early, after `count` bytes.
abbrev pub cut_at : (count : ℕ) → CdbFault
cut_at count = if count == 0 then Empty else Short count

-- A proper prefix of a command's CDB is refused as empty, or as cut at its end, on each disk that has
-- the command.
abbrev pub PrefixesAreRefused : Type 0
PrefixesAreRefused =
    (profile : Profile) (command : Command) (count : ℕ) → has_command profile command ≡ true
    → count < length (cdb_of command)
    → command_in profile (take count (cdb_of command)) ≡ Err (cut_at count)

-- The class of a CDB is read from its operation code and service action. If the CDB is a command,
-- its class is the class of that command's row.
abbrev pub CommandsHaveTheirClass : Type 0
CommandsHaveTheirClass =
    (profile : Profile) (cdb : List ℕ) (command : Command) → command_in profile cdb ≡ Ok command
    → class_in profile cdb ≡ Some (layout command).class

-- ---- Answers that are put in parts

-- Parts that are put one after the other are put as one, and putting no bytes changes nothing.
pub record PartsArePutInTurn : Type 0 where
  pub in_turn : (answer : CutAnswer) (first second : List ℕ)
      → put (put answer first) second ≡ put answer (first ++ second)
  pub nothing : (cut : Cut) → put (answer_of cut) [] ≡ answer_of cut

-- Written bytes stay if more is put. If a part is replaced by one of the same length, the answer
-- is as if the new part had been put at first. This holds even if more was put after it.
pub record PartsAreReplaced : Type 0 where
  pub kept : (cut : Cut) (bytes : List ℕ)
      → length (answer_of cut).written ≤ length (put (answer_of cut) bytes).written
  pub replaced : (cut : Cut) (old new behind : List ℕ) → length old ≡ length new
      → replace (put (answer_of cut) (old ++ behind)) (length (answer_of cut).written) new
      ≡ put (answer_of cut) (new ++ behind)

-- If an answer is put whole, its first bytes are written, as many as the limit lets through. The
-- buffer then begins with them, and the buffer's bytes after them are as they were.
pub record AnswersAreInTheirBuffers : Type 0 where
  pub written : (buffer : GName) (bytes full : List ℕ) (limit : ℕ) (begun done : Cut)
      → answer_of begun ≡ empty_answer buffer bytes limit → Puts begun done full
      → length (answer_of done).written ≡ length (first_bytes limit full)
  pub left : (buffer : GName) (bytes after full : List ℕ) (limit : ℕ) (begun done : Cut)
      → answer_of begun ≡ empty_answer buffer bytes limit → Puts begun done full
      → IsLeftIn done buffer after → after ≡ overwritten (first_bytes limit full) bytes

-- ---- CDB USAGE DATA

-- Bit i of byte k is in one of some places.
abbrev pub is_within : List Place → (k i : ℕ) → Bool
is_within places k i = list_any (λ place. has_bit (mask_in k place) (2 ^ i)) places

-- The disk evaluates the bit: it is in a field and not ignored, or it is one of the used free bits.
abbrev pub is_evaluated : Layout → (k i : ℕ) → Bool
is_evaluated l k i =
    is_within (map (λ (f : Field). f.place) l.fields) k i && not (is_within l.free.ignored k i)
    || is_within l.free.used k i

-- The bit is in a row's CDB, but not in its operation code or service action.
abbrev pub IsBitOf : Layout → (k i : ℕ) → Type 0
IsBitOf l k i =
    (1 ≤ k) × (k < length_of l.opcode) × (i < 8) × (is_within (action_places l.action) k i ≡ false)

-- A bit of CDB USAGE DATA is set exactly if the disk evaluates it. If CDB USAGE DATA has each bit of
-- a CDB's byte, an extended disk does not refuse the CDB for this byte.
pub record UsageDataIsEvaluated : Type 0 where
  pub bits : (profile : Profile) (l : Layout) (k i : ℕ) → Contains (rows_of profile) l
      → IsBitOf l k i → has_bit (slice_index (usage_data l) k) (2 ^ i) ≡ is_evaluated l k i
  pub allowed : (profile : Profile) (l : Layout) (k : ℕ) (cdb : List ℕ)
      → Contains (rows_of profile) l
      → bit_and (slice_index cdb k) (slice_index (usage_data l) k) ≡ slice_index cdb k
      → first_bad 0 (masks l) cdb ≢ Some k
