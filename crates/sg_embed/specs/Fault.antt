-- The fault that a record of C describes.
use Rattle.std.specs.Prelude.{ℕ, ◌-◌, ◌^◌, ◌==◌, nat_le, Bool, true, false, if◌then◌else◌, ok_or}
use Rattle.std.specs.Prelude.{List, [], ◌∷◌, slice_index_or, Option, Some, None, Result, Ok, Err}
use Rattle.sg_wire.specs.Initiator.{initiator_count}
use Rattle.sg_faults.specs.SenseCode.{sense_code_of}
use Rattle.sg_faults.specs.declared.fault.BadBlocks.{BadBlocks}
use Rattle.sg_faults.specs.declared.fault.Fault.{Fault}
use Rattle.sg_faults.specs.declared.outcome.Afterwards.TheVariants as after
use Rattle.sg_faults.specs.declared.outcome.AtMedium.TheVariants as medium
use Rattle.sg_faults.specs.declared.outcome.OnArrival.TheVariants as arrival
use Rattle.sg_faults.specs.declared.outcome.Outcome.{Outcome as FaultOutcome}
use Rattle.sg_faults.specs.declared.outcome.Outcome.TheVariants as place
use Rattle.sg_faults.specs.declared.sense_code.SenseCode.{SenseCode}
use Rattle.sg_units.specs.Initiators.{Members, members_of_mask}
use Rattle.sg_embed.specs.declared.fault.FaultRecord.{FaultRecord}
use Rattle.sg_embed.specs.declared.outcome.Outcome.{Outcome}
use Rattle.sg_embed.specs.declared.outcome.Outcome.TheVariants.{FaultFlag, SenseKey}
use Rattle.sg_embed.specs.declared.outcome.Outcome.TheVariants.{UnknownFault, UnknownInitiator}

-- ---- What the fault does

abbrev pub asked_sense_code : FaultRecord → Result SenseCode Outcome
asked_sense_code r = ok_or (sense_code_of r.key r.asc r.ascq) SenseKey

-- It reports the record's sense key and codes.
abbrev pub reporting : Result SenseCode Outcome → (SenseCode → FaultOutcome)
    → Result FaultOutcome Outcome
reporting (Err outcome) does = Err outcome
reporting (Ok code) does = Ok (does code)

-- What each number of the header does, from 0 on.
abbrev pub by_outcome : FaultRecord → List (Result FaultOutcome Outcome)
by_outcome r =
    Ok (place.OnArrival arrival.Busy)
    ∷ Ok (place.OnArrival arrival.TaskSetFull)
    ∷ Ok (place.OnArrival arrival.ReservationConflict)
    ∷ Ok (place.OnArrival arrival.NoReply)
    ∷ reporting (asked_sense_code r) (λ code. place.OnArrival (arrival.CheckCondition code))
    ∷ reporting (asked_sense_code r) (λ code. place.OnArrival (arrival.DeferredError code))
    ∷ reporting (asked_sense_code r) (λ code. place.AtMedium (medium.CheckCondition code))
    ∷ Ok (place.AtMedium (medium.MovesOnly r.blocks))
    ∷ Ok (place.Afterwards after.NoReply)
    ∷ reporting (asked_sense_code r) (λ code. place.Afterwards (after.CheckCondition code))
    ∷ Ok (place.Afterwards (after.ShortDataIn r.blocks))
    ∷ []

abbrev pub asked_outcome : FaultRecord → Result FaultOutcome Outcome
asked_outcome r = slice_index_or (by_outcome r) r.outcome (Err UnknownFault)

-- ---- Which commands it meets

-- The mask with the bits of a number of initiators, from 0 on.
abbrev pub mask_of_all : (count : ℕ) → ℕ
mask_of_all count = 2 ^ count - 1

-- The initiators of a mask, of a disk that has `count` of them. All 64 bits stand for all that it has. If
-- another mask has the bit of one that it does not have, the mask is refused.
abbrev pub own_initiators : (count mask : ℕ) → Option Members
own_initiators count mask =
    if mask == mask_of_all initiator_count then Some (members_of_mask (mask_of_all count))
    else (if nat_le mask (mask_of_all count) then Some (members_of_mask mask) else None)

-- The initiators of a mask that names one.
abbrev pub named_initiators : (count mask : ℕ) → Option Members
named_initiators count mask = if mask == 0 then None else own_initiators count mask

-- A flag is 0 or 1.
abbrev pub flag_of : (byte : ℕ) → Result Bool Outcome
flag_of byte = slice_index_or (Ok false ∷ Ok true ∷ []) byte (Err FaultFlag)

abbrev pub code_if : (code : ℕ) → Result Bool Outcome → Result (Option ℕ) Outcome
code_if code (Err outcome) = Err outcome
code_if code (Ok named) = Ok (if named then Some code else None)

-- The operation code, if the record names one.
abbrev pub asked_code : FaultRecord → Result (Option ℕ) Outcome
asked_code r = code_if r.code (flag_of r.has_code)

-- Only blocks are healed.
abbrev pub without_blocks : (healed : Bool) → Result (Option BadBlocks) Outcome
without_blocks healed = if healed then Err FaultFlag else Ok None

abbrev pub blocks_if : (lba count : ℕ) → Result Bool Outcome → Result (Option BadBlocks) Outcome
blocks_if lba count (Err outcome) = Err outcome
blocks_if lba count (Ok healed) =
    if count == 0 then without_blocks healed
    else Ok (Some (record {
      extent = record { lba = lba; count = count };
      healed_by_writes = healed;
    }))

-- The blocks that the fault lies on, if there are any.
abbrev pub asked_blocks : FaultRecord → Result (Option BadBlocks) Outcome
asked_blocks r = blocks_if r.lba r.count (flag_of r.healed_by_writes)

-- With 0 times the fault stays until it is taken away.
abbrev pub asked_times : (times : ℕ) → Option ℕ
asked_times times = if times == 0 then None else Some times

-- ---- The fault

-- The fields that can be wrong are checked in this order.
abbrev pub fault_with : FaultRecord → Result FaultOutcome Outcome → Option Members
    → Result (Option ℕ) Outcome → Result (Option BadBlocks) Outcome → Result Fault Outcome
fault_with r (Err refused) initiators code blocks = Err refused
fault_with r (Ok outcome) None code blocks = Err UnknownInitiator
fault_with r (Ok outcome) (Some initiators) (Err refused) blocks = Err refused
fault_with r (Ok outcome) (Some initiators) (Ok code) (Err refused) = Err refused
fault_with r (Ok outcome) (Some initiators) (Ok code) (Ok blocks) = Ok (record {
  initiators = initiators;
  code = code;
  blocks = blocks;
  skip = r.skip;
  times = asked_times r.times;
  outcome = outcome;
})

-- The fault that a record asks for, of a disk with a number of initiators.
abbrev pub asked_fault : (count : ℕ) → FaultRecord → Result Fault Outcome
asked_fault count r =
    fault_with r (asked_outcome r) (named_initiators count r.initiators) (asked_code r)
    (asked_blocks r)
