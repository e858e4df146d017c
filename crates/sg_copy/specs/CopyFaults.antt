-- Why an EXTENDED COPY is refused, with the sense data of each fault (SPC-4, 6.5).
use Rattle.std.specs.Prelude.{ℕ, false, Some, None}
use Rattle.sg_wire.specs.SenseData.{SenseFields}
use Rattle.sg_wire.specs.SenseKey.{illegal_request}
use Rattle.sg_copy.specs.declared.fault.Invalid.{Invalid}
use Rattle.sg_copy.specs.declared.fault.Invalid.TheVariants.{Field, TooManyCscds, CscdType}
use Rattle.sg_copy.specs.declared.fault.Invalid.TheVariants.{TooManySegments, SegmentType, InlineData}
use Rattle.sg_copy.specs.declared.fault.CopyFault.{CopyFault}
use Rattle.sg_copy.specs.declared.fault.CopyFault.TheVariants.{Length, InvalidAt}
use Rattle.sg_copy.specs.declared.fault.CopyFault.TheVariants.{NotReachable, OtherDeviceType, PastCapacity}

-- The sense key COPY ABORTED (SPC-4, sense key descriptions).
abbrev pub copy_aborted : ℕ
copy_aborted = 10

-- The qualifiers of additional sense code 26h. In this order: INVALID FIELD IN PARAMETER LIST; TOO MANY
-- TARGET DESCRIPTORS; UNSUPPORTED TARGET DESCRIPTOR TYPE CODE; TOO MANY SEGMENT DESCRIPTORS; UNSUPPORTED
-- SEGMENT DESCRIPTOR TYPE CODE; and INLINE DATA LENGTH EXCEEDED.
abbrev pub qualifier_of : Invalid → ℕ
qualifier_of Field = 0x00
qualifier_of TooManyCscds = 0x06
qualifier_of CscdType = 0x07
qualifier_of TooManySegments = 0x08
qualifier_of SegmentType = 0x09
qualifier_of InlineData = 0x0B

abbrev pub plain : (key asc ascq : ℕ) → SenseFields
plain key asc ascq =
    record { key = key; asc = asc; ascq = ascq; information = None; pointer = None }

-- PARAMETER LIST LENGTH ERROR, or 26h with a pointer to the byte in error. The last three are found when the
-- segment is processed. They are COPY TARGET DEVICE NOT REACHABLE, INCORRECT COPY TARGET DEVICE TYPE, and NO
-- ADDITIONAL SENSE INFORMATION for a block that the unit does not have. The segment has number 0, which
-- COMMAND-SPECIFIC INFORMATION of fixed format says by its zeros.
-- Choice (SPC-4, 6.5): a block past the last one may have another code.
abbrev pub copy_sense : CopyFault → SenseFields
copy_sense Length = plain illegal_request 0x1A 0x00
copy_sense (InvalidAt what byte) =
    record (plain illegal_request 0x26 (qualifier_of what))
    { pointer = Some (record { in_command = false; byte = byte }) }
copy_sense NotReachable = plain copy_aborted 0x0D 0x02
copy_sense OtherDeviceType = plain copy_aborted 0x0D 0x03
copy_sense PastCapacity = plain copy_aborted 0x00 0x00
