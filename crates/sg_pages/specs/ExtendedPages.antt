-- The pages that only a disk of the extended profile has: Extended INQUIRY Data, Mode Page Policy
-- and SCSI Ports (SPC-4, 7.8), and Block Device Characteristics (SBC-3, vital product data
-- parameters).
use Rattle.std.specs.Prelude.{ℕ, List, [], ◌∷◌}
use Rattle.sg_wire.specs.Fields.{Field, field, fields_bytes}
use Rattle.sg_wire.specs.TargetPort.{relative_target_port}

-- ---- Extended INQUIRY Data (SPC-4, 7.8.7), from byte 4 of the page on

-- ACTIVATE MICROCODE, SPT, GRD_CHK, APP_CHK and REF_CHK 0, byte 4: no microcode is downloaded, and
-- there is no protection information.
abbrev protection_checks : Field
protection_checks = field 1 0x00

-- HEADSUP, ORDSUP and SIMPSUP 1, byte 5: a command may have each of these task attributes, because
-- the disk executes one command after the other. UASK_SUP, GROUP_SUP and PRIOR_SUP 0: no unit
-- attention has sense key specific data, no blocks are grouped, and commands have no priority.
-- Choice (SPC-4, 7.8.7): HEADSUP and ORDSUP may be 0.
abbrev task_attributes : Field
task_attributes = field 1 0x07

-- WU_SUP and CRD_SUP 1, byte 6: WRITE LONG has WR_UNCOR and COR_DIS. V_SUP 1: a volatile cache is
-- supported, as WCE says. NV_SUP 0: no nonvolatile cache is.
-- Choice (SPC-4, 7.8.7): V_SUP may be 0, because nothing is cached.
abbrev cache_bits : Field
cache_bits = field 1 0x0D

-- LUICLR 1, byte 7: a report of REPORTED LUNS DATA HAS CHANGED clears it for all logical units of the
-- I_T nexus, because there is one. P_I_I_SUP 0: there is no protection information.
abbrev clearing_bits : Field
clearing_bits = field 1 0x01

-- R_SUP and CBCS, byte 8; MULTI I_T NEXUS MICROCODE DOWNLOAD, byte 9; EXTENDED SELF-TEST COMPLETION
-- MINUTES, bytes 10 and 11; POA_SUP, HRA_SUP and VSA_SUP, byte 12; and MAXIMUM SUPPORTED SENSE DATA
-- LENGTH, byte 13: not supported, or not reported. Bytes 14 to 63 are reserved.
abbrev not_reported : Field
not_reported = field 56 0

unfoldable pub extended_inquiry_data : List ℕ
extended_inquiry_data =
    fields_bytes (
    protection_checks
    ∷ task_attributes
    ∷ cache_bits
    ∷ clearing_bits
    ∷ not_reported
    ∷ []
    )

-- ---- Mode Page Policy (SPC-4, 7.8), from byte 4 of the page on

-- POLICY PAGE CODE 3Fh and POLICY SUBPAGE CODE FFh, bytes 4 and 5: the one descriptor is for all
-- mode pages and subpages.
abbrev policy_page : Field
policy_page = field 1 0x3F

abbrev policy_subpage : Field
policy_subpage = field 1 0xFF

-- MLUS 0 and MODE PAGE POLICY 0, byte 6: all initiators share them, and no other logical unit does.
abbrev shared : Field
shared = field 1 0x00

-- Byte 7.
abbrev reserved_byte : Field
reserved_byte = field 1 0

unfoldable pub mode_page_policy : List ℕ
mode_page_policy = fields_bytes (policy_page ∷ policy_subpage ∷ shared ∷ reserved_byte ∷ [])

-- ---- SCSI Ports (SPC-4, 7.8), from byte 4 of the page on

-- RELATIVE PORT IDENTIFIER, bytes 6 and 7, after two reserved bytes: the one port.
abbrev reserved_bytes : Field
reserved_bytes = field 2 0

abbrev port_identifier : Field
port_identifier = field 2 relative_target_port

-- INITIATOR PORT TRANSPORTID LENGTH 0, bytes 10 and 11, after two reserved bytes: the port is a
-- target port only.
abbrev initiator_port_length : Field
initiator_port_length = field 2 0

-- TARGET PORT DESCRIPTORS LENGTH 0, bytes 14 and 15, after two reserved bytes: the target port has
-- no names.
-- Choice (SPC-4, 7.8): the target port may have descriptors.
abbrev target_port_length : Field
target_port_length = field 2 0

unfoldable pub scsi_ports : List ℕ
scsi_ports =
    fields_bytes (
    reserved_bytes
    ∷ port_identifier
    ∷ reserved_bytes
    ∷ initiator_port_length
    ∷ reserved_bytes
    ∷ target_port_length
    ∷ []
    )

-- ---- Block Device Characteristics, from byte 4 of the page on

-- MEDIUM ROTATION RATE 0001h, bytes 4 and 5: the medium does not rotate.
abbrev rotation_rate : Field
rotation_rate = field 2 0x0001

-- PRODUCT TYPE, byte 6: not reported.
abbrev product_type : Field
product_type = field 1 0

-- WABEREQ 01b and WACEREQ 01b, byte 7: after a BLOCK ERASE or a CRYPTOGRAPHIC ERASE of SANITIZE, a block
-- is read without an error before it is written. NOMINAL FORM FACTOR 0: not reported.
abbrev reads_after_erase : Field
reads_after_erase = field 1 0x50

-- FUAB and VBULS 1, byte 8: FUA and SYNCHRONIZE CACHE are as in SBC-3, and a verification may
-- compare blocks that are not mapped.
abbrev cache_and_verify_bits : Field
cache_and_verify_bits = field 1 0x03

-- Bytes 9 to 63.
abbrev reserved : Field
reserved = field 55 0

unfoldable pub block_device_characteristics : List ℕ
block_device_characteristics =
    fields_bytes (
    rotation_rate
    ∷ product_type
    ∷ reads_after_erase
    ∷ cache_and_verify_bits
    ∷ reserved
    ∷ []
    )
