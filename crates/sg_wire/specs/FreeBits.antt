-- The bits of a CDB that may have any value, beside the fields of its command (docs/PROFILE.md,
-- "Commands").
use Rattle.std.specs.Prelude.{ℕ, List, [], ◌∷◌, if◌then◌else◌}
use Rattle.sg_wire.specs.CdbFields.{Place}
use Rattle.sg_wire.specs.CdbFields.Place.{bit, bits, bytes}
use Rattle.sg_wire.specs.ReservationAction.{has_type}
use Rattle.sg_wire.specs.declared.command.out_action.OutAction.{OutAction}

-- Bits beside the fields that may have any value.
pub record FreeBits : Type 0 where
  -- they have a meaning, which changes nothing here: DPO and FUA of a disk without a cache
  pub used : List Place
  -- the disk does not look at them: obsolete bits, and a GROUP NUMBER
  pub ignored : List Place

abbrev pub no_bits : FreeBits
no_bits = record { used = []; ignored = [] }

-- The disk has no cache and groups no blocks. So of a command that moves blocks it need not look at
-- DPO, FUA, the obsolete bit 1 and the GROUP NUMBER. FUA and the obsolete bit 1 are not in each CDB.
-- Choice (SBC-3, 5.11): the obsolete bit 1 may be refused.
-- Choice (SBC-3, RARC): RARC may be ignored.
abbrev pub cache_bits : (group_byte : ℕ) → FreeBits
cache_bits group_byte =
    record { used = bit 1 4 ∷ bit 1 3 ∷ []; ignored = bit 1 1 ∷ bits group_byte 4 0 ∷ [] }

-- WRITE ATOMIC has no obsolete bit.
abbrev pub dpo_fua_bits : (group_byte : ℕ) → FreeBits
dpo_fua_bits group_byte =
    record (cache_bits group_byte) { ignored = bits group_byte 4 0 ∷ [] }

abbrev pub dpo_bit : (group_byte : ℕ) → FreeBits
dpo_bit group_byte = record { used = bit 1 4 ∷ []; ignored = bits group_byte 4 0 ∷ [] }

-- IMMED and the GROUP NUMBER.
abbrev pub immed_bit : (group_byte : ℕ) → FreeBits
immed_bit group_byte = record { used = bit 1 1 ∷ []; ignored = bits group_byte 4 0 ∷ [] }

-- SYNCHRONIZE CACHE has an obsolete bit 2, too.
-- Choice (SBC-3, 5.26): the obsolete bit 2 may be refused.
abbrev pub immed_bits : (group_byte : ℕ) → FreeBits
immed_bits group_byte =
    record (immed_bit group_byte) { ignored = bit 1 2 ∷ bits group_byte 4 0 ∷ [] }

-- Choice (SBC-3, grouping function): a GROUP NUMBER may be refused.
abbrev pub group_number : (byte : ℕ) → FreeBits
group_number byte = record no_bits { ignored = bits byte 4 0 ∷ [] }

-- IMMED and NO_FLUSH of START STOP UNIT: the unit has stopped or started as the command ends, and there is
-- no cache.
abbrev pub start_bits : FreeBits
start_bits = record no_bits { used = bit 1 0 ∷ bit 4 2 ∷ [] }

-- PF, DEVOFFL and UNITOFFL of SEND DIAGNOSTIC: no page is sent, and the self-test disturbs nothing.
abbrev pub diagnostic_bits : FreeBits
diagnostic_bits = record no_bits { ignored = bit 1 4 ∷ bit 1 1 ∷ bit 1 0 ∷ [] }

-- CMPLST of FORMAT UNIT: no list of defects is taken or kept.
-- Choice (SBC-3, 5.3): a DEFECT LIST FORMAT other than 000b may be supported.
abbrev pub format_bits : FreeBits
format_bits = record no_bits { ignored = bit 1 3 ∷ [] }

-- IMMED and AUSE of SANITIZE, which is done before its status is sent, and never fails.
abbrev pub sanitize_bits : FreeBits
sanitize_bits = record { used = bit 1 7 ∷ []; ignored = bit 1 5 ∷ [] }

-- PC of LOG SENSE: no page has values to choose from.
abbrev pub log_bits : FreeBits
log_bits = record no_bits { used = bits 2 7 6 ∷ [] }

-- ---- Fields that the disk does not look at

-- ADDRESS DESCRIPTOR INDEX of READ DEFECT DATA(12): the lists have no descriptor.
abbrev pub index_bytes : FreeBits
index_bytes = record no_bits { ignored = bytes 2 5 ∷ [] }

-- BYTE TRANSFER LENGTH of WRITE LONG, which moves no data if WR_UNCOR is 1 (SBC-3, 5.41).
abbrev pub length_bytes : FreeBits
length_bytes = record no_bits { ignored = bytes 7 8 ∷ [] }

-- SCOPE and TYPE of a service action of PERSISTENT RESERVE OUT that is for no type.
abbrev pub out_bits : OutAction → FreeBits
out_bits action = record no_bits { ignored = if has_type action then [] else bytes 2 2 ∷ [] }
