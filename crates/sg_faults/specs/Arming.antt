-- Armed faults, and what is left of them.
use Rattle.std.specs.Prelude.{ℕ, ◌-◌, ◌==◌, Bool, false, ◌&&◌, not, List, map}
use Rattle.std.specs.Prelude.{true, nat_lt, Option, Some, None, if◌then◌else◌}
use Rattle.std.specs.Prelude.{option_and_then, option_map, slice_index_or, slice_set}
use Rattle.std.specs.List.{list_any, range_with_len}
use Rattle.std.specs.Option.{option_map_or, option_or}
use Rattle.sg_wire.specs.Initiator.{initiator_count}
use Rattle.sg_units.specs.Initiators.{all_initiators, is_member}
use Rattle.sg_faults.specs.Meeting.{Seen, first_overwritten, first_read, heals}
use Rattle.sg_faults.specs.declared.fault.ArmedFault.{ArmedFault}
use Rattle.sg_faults.specs.declared.fault.BadBlocks.{BadBlocks}
use Rattle.sg_faults.specs.declared.fault.Count.{Count}
use Rattle.sg_faults.specs.declared.fault.Fault.{Fault}
use Rattle.sg_faults.specs.declared.outcome.AtMedium.TheVariants.{CheckCondition}
use Rattle.sg_faults.specs.declared.outcome.Outcome.TheVariants.{AtMedium}
use Rattle.sg_faults.specs.declared.sense_code.SenseCode.{SenseCode}

-- ---- What is left of a fault for one initiator

-- Nothing is left.
abbrev pub spent : Count
spent = record { skip = 0; times = Some 0 }

abbrev pub is_spent : Count → Bool
is_spent count = option_map_or (λ times. times == 0) count.times false

-- The next command that meets the fault does not pass.
abbrev pub is_due : Count → Bool
is_due count = count.skip == 0 && not (is_spent count)

-- A command met the fault: it passed, or the fault did something to it.
abbrev pub next_count : Count → Count
next_count count =
    if nat_lt 0 count.skip then record count { skip = count.skip - 1 }
    else record count { times = option_map (λ times. times - 1) count.times }

-- ---- Bad blocks

-- A pseudo unrecovered error lies on one block: each command that reads the block reports it, until a
-- command writes the block (SBC-3, 4.18.2).
abbrev pub unrecovered_error : (lba : ℕ) → SenseCode → Fault
unrecovered_error lba code = record {
  initiators = all_initiators;
  code = None;
  blocks = Some (record { extent = record { lba = lba; count = 1 }; healed_by_writes = true });
  skip = 0;
  times = None;
  outcome = AtMedium (CheckCondition code);
}

-- ---- Armed faults

-- An armed fault has a count for each initiator. For one that it does not name nothing is left.
abbrev pub first_count : Fault → (initiator : ℕ) → Count
first_count fault initiator =
    if is_member fault.initiators initiator
    then record { skip = fault.skip; times = fault.times }
    else spent

unfoldable pub first_counts : Fault → List Count
first_counts fault = map (first_count fault) (range_with_len 0 initiator_count)

abbrev pub armed : Fault → ArmedFault
armed fault = record { fault = fault; counts = first_counts fault }

abbrev pub count_for : ArmedFault → (initiator : ℕ) → Count
count_for a initiator = slice_index_or a.counts initiator spent

abbrev pub counted : ArmedFault → (initiator : ℕ) → ArmedFault
counted a initiator =
    record a { counts = slice_set a.counts initiator (next_count (count_for a initiator)) }

-- Something is left of it for some initiator.
abbrev pub lasts : ArmedFault → Bool
lasts a = list_any (λ count. not (is_spent count)) a.counts

abbrev pub is_healed_by : Seen → ArmedFault → Bool
is_healed_by command a = option_map_or (heals command) a.fault.blocks false

-- The first bad block that a command reads, or otherwise the first that it overwrites, if the fault lies on
-- blocks.
abbrev pub first_bad_of : Seen → BadBlocks → Option ℕ
first_bad_of command bad = option_or (first_read command bad.extent) (first_overwritten command bad.extent)

abbrev pub first_bad : Seen → Fault → Option ℕ
first_bad command fault = option_and_then (first_bad_of command) fault.blocks
