-- PERSISTENT RESERVE IN (SPC-4, 6.15).
use Rattle.std.specs.Prelude.{ℕ, ◌+◌, ◌*◌, ◌/◌, ◌%◌, ◌^◌, ◌==◌, Bool, List, [], ◌∷◌, ◌++◌}
use Rattle.std.specs.Prelude.{length, filter, map, sum}
use Rattle.std.specs.Prelude.{Option, Some, None, unwrap_or, option_and_then, if◌then◌else◌}
use Rattle.std.specs.List.{flat_map}
use Rattle.byteorder.specs.Endian.{big_bytes}
use Rattle.sg_wire.specs.Fields.{Field, field, fields_bytes}
use Rattle.sg_wire.specs.declared.profile.Rules.{Rules}
use Rattle.sg_units.specs.Registrations.{key_of}
use Rattle.sg_units.specs.ReservationType.{code_of, each_type}
use Rattle.sg_units.specs.declared.registrations.Registration.{Registration}
use Rattle.sg_units.specs.declared.reservation.Reservation.{Reservation}
use Rattle.sg_units.specs.declared.reservation_state.ReservationState.{ReservationState}
use Rattle.sg_units.specs.declared.types.ReservationType.{ReservationType}

-- PRGENERATION and ADDITIONAL LENGTH.
abbrev pub header : (generation additional_length : ℕ) → List ℕ
header generation additional_length = big_bytes 4 generation ++ big_bytes 4 additional_length

abbrev pub key_bytes : Registration → List ℕ
key_bytes r = big_bytes 8 r.key

-- READ KEYS (SPC-4, 6.15.2): the keys of all registrations, in their order.
-- Choice (SPC-4, 6.15.2): keys may be returned in another order.
unfoldable pub keys_data : ReservationState → List ℕ
keys_data state =
    header state.generation (8 * length state.registrations)
    ++ flat_map key_bytes state.registrations

-- The key of the one holder, or 0 if each registrant is a holder.
abbrev pub holder_key : List Registration → (holder : Option ℕ) → ℕ
holder_key registrations holder = unwrap_or (option_and_then (key_of registrations) holder) 0

-- The descriptor of a reservation: RESERVATION KEY, four bytes obsolete, a reserved byte, SCOPE
-- with TYPE, and two bytes obsolete.
abbrev pub descriptor_fields : (key scope_type : ℕ) → List Field
descriptor_fields key scope_type =
    field 8 key ∷ field 4 0 ∷ field 1 0 ∷ field 1 scope_type ∷ field 2 0 ∷ []

abbrev pub descriptor : ReservationState → Reservation → List ℕ
descriptor state reservation =
    fields_bytes (
    descriptor_fields
    (holder_key state.registrations reservation.holder) (code_of reservation.kind)
    )

-- READ RESERVATION (SPC-4, 6.15.3). ADDITIONAL LENGTH is the number of bytes that follow it.
abbrev pub reservation_data_of : ReservationState → Option Reservation → List ℕ
reservation_data_of state None = header state.generation 0
reservation_data_of state (Some reservation) =
    let following = descriptor state reservation in
    header state.generation (length following) ++ following

unfoldable pub reservation_data : ReservationState → List ℕ
reservation_data state = reservation_data_of state state.reservation

-- ---- REPORT CAPABILITIES (SPC-4, 6.15.4)

-- LENGTH, bytes 0 and 1: the length of the whole data, including LENGTH itself.
abbrev capabilities_length : (following : List ℕ) → Field
capabilities_length following = field 2 (2 + length following)

-- Byte 2. SIP_C, bit 3, and ATP_C, bit 2: the disk supports SPEC_I_PT and ALL_TG_PT. PTPL_C, bit 0:
-- registrations and reservation can persist through a power loss. RLR_C and CRH are 0. So the disk does
-- not support REPLACE LOST RESERVATION, or exceptions for RESERVE and RELEASE.
abbrev sip_c : ℕ
sip_c = 0x08

abbrev atp_c : ℕ
atp_c = 0x04

abbrev ptpl_c : ℕ
ptpl_c = 0x01

abbrev capable_bits : Rules → Field
capable_bits rules = field 1 (if rules.specifies_ports then sip_c + atp_c + ptpl_c else ptpl_c)

-- Byte 3. TMV, bit 7: the type mask is valid. ALLOW COMMANDS, bits 6 to 4: which commands of others
-- a reservation allows. PTPL_A, bit 0: registrations and reservation do persist.
abbrev tmv : ℕ
tmv = 0x80

abbrev ptpl_a : ℕ
ptpl_a = 0x01

-- 3h of an extended disk: Write Exclusive and Exclusive Access allow TEST UNIT READY. Write Exclusive
-- also allows MODE SENSE, READ DEFECT DATA and the reports of commands and task management functions.
abbrev allow_commands : Rules → ℕ
allow_commands rules = rules.allow_commands % 2 ^ 3 * 2 ^ 4

-- 0h of a base disk gives no information on these commands (SPC-4, 6.15.4).
abbrev activated_bits : Rules → ReservationState → Field
activated_bits rules state =
    let flags = tmv + allow_commands rules in
    field 1 (if state.persists_through_power_loss then flags + ptpl_a else flags)

-- PERSISTENT RESERVATION TYPE MASK, bytes 4 and 5: WR_EX_AR, EX_AC_RO, WR_EX_RO, EX_AC, WR_EX and
-- EX_AC_AR 1, because each type is supported. The bit of a type follows from its code: it is bit
-- `code % 8` of the mask's byte `code / 8`.
abbrev is_in_byte : (byte : ℕ) → ReservationType → Bool
is_in_byte byte type = code_of type / 8 == byte

abbrev type_bit : ReservationType → ℕ
type_bit type = 2 ^ (code_of type % 8)

abbrev type_mask : (byte : ℕ) → Field
type_mask byte = field 1 (sum (map type_bit (filter (is_in_byte byte) each_type)))

-- Bytes 6 and 7.
abbrev reserved : Field
reserved = field 2 0

abbrev capabilities_after_length : Rules → ReservationState → List ℕ
capabilities_after_length rules state =
    fields_bytes (
    capable_bits rules ∷ activated_bits rules state ∷ type_mask 0 ∷ type_mask 1 ∷ reserved ∷ []
    )

abbrev pub capabilities_data : Rules → ReservationState → List ℕ
capabilities_data rules state =
    let following = capabilities_after_length rules state in
    fields_bytes (capabilities_length following ∷ []) ++ following
