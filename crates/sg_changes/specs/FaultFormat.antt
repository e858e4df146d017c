-- The bytes of armed faults.
use Rattle.std.specs.Prelude.{ℕ, ◌==◌, Bool, true, List, [], ◌∷◌, Option, Some, None, if◌then◌else◌}
use Rattle.sg_faults.specs.Faults.{max_faults}
use Rattle.sg_faults.specs.SenseCode.{key_code, key_with_code}
use Rattle.sg_faults.specs.declared.fault.ArmedFault.{ArmedFault}
use Rattle.sg_faults.specs.declared.fault.BadBlocks.{BadBlocks}
use Rattle.sg_faults.specs.declared.fault.Count.{Count}
use Rattle.sg_faults.specs.declared.fault.Fault.{Fault}
use Rattle.sg_faults.specs.declared.outcome.Afterwards.TheVariants as afterwards
use Rattle.sg_faults.specs.declared.outcome.AtMedium.TheVariants as at_medium
use Rattle.sg_faults.specs.declared.outcome.OnArrival.TheVariants as on_arrival
use Rattle.sg_faults.specs.declared.outcome.Outcome.{Outcome}
use Rattle.sg_faults.specs.declared.outcome.Outcome.TheVariants.{OnArrival, AtMedium, Afterwards}
use Rattle.sg_faults.specs.declared.sense_code.SenseCode.{SenseCode}
use Rattle.sg_faults.specs.declared.sense_code.SenseKey.{SenseKey}
use Rattle.sg_wire.specs.Initiator.{initiator_count}
use Rattle.sg_changes.specs.ExtentFormat.{extent}
use Rattle.sg_changes.specs.Format.{Format, number, pair, coded, flag, optional, many, nothing, made}
use Rattle.sg_changes.specs.Format.{tagged}

-- ---- What a fault does

-- SENSE KEY 1.
unfoldable pub sense_key : Format SenseKey
sense_key = coded key_with_code (λ key. Some (key_code key)) (number 1)

-- SENSE KEY 1, ADDITIONAL SENSE CODE 1, its QUALIFIER 1.
unfoldable pub sense_code : Format SenseCode
sense_code =
    coded (λ p. Some (record { key = p.0; asc = p.1.0; ascq = p.1.1 }))
    (λ (c : SenseCode). Some (c.key, (c.asc, c.ascq)))
    (pair sense_key (pair (number 1) (number 1)))

-- A tag of one byte. Then a sense code, or a number of 4 bytes, or nothing.
abbrev pub outcome_bytes : Outcome → List ℕ
outcome_bytes (OnArrival on_arrival.Busy) = 1 ∷ []
outcome_bytes (OnArrival on_arrival.TaskSetFull) = 2 ∷ []
outcome_bytes (OnArrival on_arrival.ReservationConflict) = 3 ∷ []
outcome_bytes (OnArrival on_arrival.NoReply) = 4 ∷ []
outcome_bytes (OnArrival (on_arrival.CheckCondition code)) = 5 ∷ sense_code.bytes code
outcome_bytes (OnArrival (on_arrival.DeferredError code)) = 6 ∷ sense_code.bytes code
outcome_bytes (AtMedium (at_medium.CheckCondition code)) = 7 ∷ sense_code.bytes code
outcome_bytes (AtMedium (at_medium.MovesOnly blocks)) = 8 ∷ (number 4).bytes blocks
outcome_bytes (Afterwards afterwards.NoReply) = 9 ∷ []
outcome_bytes (Afterwards (afterwards.CheckCondition code)) = 10 ∷ sense_code.bytes code
outcome_bytes (Afterwards (afterwards.ShortDataIn bytes)) = 11 ∷ (number 4).bytes bytes

abbrev pub outcome_is_possible : Outcome → Bool
outcome_is_possible (OnArrival (on_arrival.CheckCondition code)) = sense_code.is_possible code
outcome_is_possible (OnArrival (on_arrival.DeferredError code)) = sense_code.is_possible code
outcome_is_possible (OnArrival _) = true
outcome_is_possible (AtMedium (at_medium.CheckCondition code)) = sense_code.is_possible code
outcome_is_possible (AtMedium (at_medium.MovesOnly blocks)) = (number 4).is_possible blocks
outcome_is_possible (Afterwards afterwards.NoReply) = true
outcome_is_possible (Afterwards (afterwards.CheckCondition code)) = sense_code.is_possible code
outcome_is_possible (Afterwards (afterwards.ShortDataIn bytes)) = (number 4).is_possible bytes

unfoldable pub outcome_with_tag : (tag : ℕ) → List ℕ → Option (Outcome × List ℕ)
outcome_with_tag tag bytes =
    if tag == 1 then made (λ _. OnArrival on_arrival.Busy) (nothing.at bytes)
    else if tag == 2 then made (λ _. OnArrival on_arrival.TaskSetFull) (nothing.at bytes)
    else if tag == 3 then made (λ _. OnArrival on_arrival.ReservationConflict) (nothing.at bytes)
    else if tag == 4 then made (λ _. OnArrival on_arrival.NoReply) (nothing.at bytes)
    else if tag == 5 then made (λ c. OnArrival (on_arrival.CheckCondition c)) (sense_code.at bytes)
    else if tag == 6 then made (λ c. OnArrival (on_arrival.DeferredError c)) (sense_code.at bytes)
    else if tag == 7 then made (λ c. AtMedium (at_medium.CheckCondition c)) (sense_code.at bytes)
    else if tag == 8 then made (λ n. AtMedium (at_medium.MovesOnly n)) ((number 4).at bytes)
    else if tag == 9 then made (λ _. Afterwards afterwards.NoReply) (nothing.at bytes)
    else if tag == 10 then made (λ c. Afterwards (afterwards.CheckCondition c)) (sense_code.at bytes)
    else if tag == 11 then made (λ n. Afterwards (afterwards.ShortDataIn n)) ((number 4).at bytes)
    else None

unfoldable pub outcome : Format Outcome
outcome = tagged outcome_bytes outcome_is_possible outcome_with_tag

-- ---- Faults

-- LBA 8, COUNT 4, and whether a write of all of them heals them 1.
unfoldable pub bad_blocks : Format BadBlocks
bad_blocks =
    coded (λ p. Some (record { extent = p.0; healed_by_writes = p.1 }))
    (λ (b : BadBlocks). Some (b.extent, b.healed_by_writes))
    (pair extent flag)

-- For each initiator, whether the fault meets its commands 1. The operation code 1, if any. The bad
-- blocks, if any. SKIP 2. TIMES 2, if there is a limit. What the fault does.
unfoldable pub fault : Format Fault
fault =
    coded
    (λ p. Some (record {
      initiators = p.0;
      code = p.1.0;
      blocks = p.1.1.0;
      skip = p.1.1.1.0;
      times = p.1.1.1.1.0;
      outcome = p.1.1.1.1.1;
    }))
    (λ (f : Fault). Some (f.initiators, (f.code, (f.blocks, (f.skip, (f.times, f.outcome))))))
    (pair (many initiator_count flag)
    (pair (optional (number 1))
    (pair (optional bad_blocks)
    (pair (number 2)
    (pair (optional (number 2)) outcome)))))

-- SKIP 2. TIMES 2, if there is a limit.
unfoldable pub count : Format Count
count =
    coded (λ p. Some (record { skip = p.0; times = p.1 })) (λ (c : Count). Some (c.skip, c.times))
    (pair (number 2) (optional (number 2)))

-- A fault, and what is left of it for each initiator.
unfoldable pub armed_fault : Format ArmedFault
armed_fault =
    coded (λ p. Some (record { fault = p.0; counts = p.1 }))
    (λ (a : ArmedFault). Some (a.fault, a.counts))
    (pair fault (many initiator_count count))

-- What is armed under each number, if anything.
unfoldable pub faults : Format (List (Option ArmedFault))
faults = many max_faults (optional armed_fault)
