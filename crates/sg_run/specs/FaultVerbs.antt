-- The verbs `fault` and `heal` of an extended disk: a fault is armed, or faults are taken away
-- (docs/SCRIPT.md).
use Rattle.std.specs.Prelude.{ℕ, ◌-◌, List, [], ◌∷◌, codes, Bool, ◌&&◌, ◌||◌, if◌then◌else◌}
use Rattle.std.specs.Prelude.{Option, Some, None, is_none, option_map, unwrap_or}
use Rattle.std.specs.Str.{bytes_eq}
use Rattle.sg_wire.specs.declared.extent.Extent.{Extent}
use Rattle.sg_tools.specs.Number.{number_up_to}
use Rattle.sg_units.specs.Initiators.{all_initiators}
use Rattle.sg_faults.specs.Faults.{max_faults}
use Rattle.sg_faults.specs.declared.fault.BadBlocks.{BadBlocks}
use Rattle.sg_faults.specs.declared.fault.Fault.{Fault}
use Rattle.sg_faults.specs.declared.outcome.Afterwards.{Afterwards as AfterOutcome}
use Rattle.sg_faults.specs.declared.outcome.Afterwards.TheVariants as after
use Rattle.sg_faults.specs.declared.outcome.AtMedium.TheVariants as medium
use Rattle.sg_faults.specs.declared.outcome.OnArrival.{OnArrival as ArrivalOutcome}
use Rattle.sg_faults.specs.declared.outcome.OnArrival.TheVariants as arrival
use Rattle.sg_faults.specs.declared.outcome.Outcome.{Outcome}
use Rattle.sg_faults.specs.declared.outcome.Outcome.TheVariants.{OnArrival, AtMedium, Afterwards}
use Rattle.sg_target.specs.declared.happening.Happening.{Happening}
use Rattle.sg_target.specs.declared.happening.Happening.TheVariants.{Arm, Disarm, DisarmAll}
use Rattle.sg_run.specs.FaultOptions.{most_blocks, most_bytes, options_of}
use Rattle.sg_run.specs.SenseCodeWord.{sense_code_of}
use Rattle.sg_run.specs.declared.request.fault_options.FaultOptions.{FaultOptions}

-- ---- What a fault does

-- What it does on arrival, by a word of its own.
pub record ArrivalWord : Type 0 where
  pub word : List ℕ
  pub outcome : ArrivalOutcome

abbrev word : List ℕ → ArrivalOutcome → ArrivalWord
word text outcome = record { word = text; outcome = outcome }

abbrev pub arrival_words : List ArrivalWord
arrival_words =
    word (codes "busy") arrival.Busy
    ∷ word (codes "full") arrival.TaskSetFull
    ∷ word (codes "conflict") arrival.ReservationConflict
    ∷ word (codes "silent") arrival.NoReply
    ∷ []

-- Any other word is a sense code.
abbrev pub arrival_of : List ArrivalWord → (what : List ℕ) → Option ArrivalOutcome
arrival_of [] what = option_map (λ code. arrival.CheckCondition code) (sense_code_of what)
arrival_of (row ∷ rows) what =
    if bytes_eq what row.word then Some row.outcome else arrival_of rows what

abbrev pub afterwards_of : (what : List ℕ) → Option AfterOutcome
afterwards_of what =
    if bytes_eq what (codes "silent") then Some after.NoReply
    else option_map (λ code. after.CheckCondition code) (sense_code_of what)

-- What it does, by its place and one word.
abbrev pub outcome_of : (place what : List ℕ) → Option Outcome
outcome_of place what =
    if bytes_eq place (codes "arrival") then option_map (λ o. OnArrival o) (arrival_of arrival_words what)
    else (if bytes_eq place (codes "medium")
    then option_map (λ code. AtMedium (medium.CheckCondition code)) (sense_code_of what)
    else (if bytes_eq place (codes "after") then option_map (λ o. Afterwards o) (afterwards_of what)
    else None))

-- What it does, by its place, a word and an operand of this word.
abbrev pub outcome_with : (place what operand : List ℕ) → Option Outcome
outcome_with place what operand =
    if bytes_eq place (codes "arrival") && bytes_eq what (codes "deferred")
    then option_map (λ code. OnArrival (arrival.DeferredError code)) (sense_code_of operand)
    else (if bytes_eq place (codes "medium") && bytes_eq what (codes "first")
    then option_map (λ n. AtMedium (medium.MovesOnly n)) (number_up_to most_blocks operand)
    else (if bytes_eq place (codes "after") && bytes_eq what (codes "first")
    then option_map (λ n. Afterwards (after.ShortDataIn n)) (number_up_to most_bytes operand)
    else None))

abbrev pub takes_operand : (what : List ℕ) → Bool
takes_operand what = bytes_eq what (codes "deferred") || bytes_eq what (codes "first")

-- ---- The verbs

abbrev pub bad_blocks : FaultOptions → Extent → BadBlocks
bad_blocks options extent = record { extent = extent; healed_by_writes = options.is_healed }

-- Without `to`, it meets the commands of all initiators.
abbrev pub fault_with : Outcome → FaultOptions → Fault
fault_with outcome options = record {
  initiators = unwrap_or options.initiators all_initiators;
  code = options.code;
  blocks = option_map (bad_blocks options) options.blocks;
  skip = unwrap_or options.skip 0;
  times = options.times;
  outcome = outcome;
}

-- Only blocks can be healed.
abbrev pub arming : Outcome → FaultOptions → Option Happening
arming outcome options =
    if options.is_healed && is_none options.blocks then None
    else Some (Arm (fault_with outcome options))

abbrev pub arming_by : Option Outcome → Option FaultOptions → Option Happening
arming_by (Some outcome) (Some options) = arming outcome options
arming_by _ _ = None

-- The verb `fault`: a place, what the fault does there, and options.
abbrev pub fault_of : List (List ℕ) → Option Happening
fault_of [] = None
fault_of (place ∷ []) = None
fault_of (place ∷ what ∷ []) = arming_by (outcome_of place what) (options_of [])
fault_of (place ∷ what ∷ next ∷ words) =
    if takes_operand what then arming_by (outcome_with place what next) (options_of words)
    else arming_by (outcome_of place what) (options_of (next ∷ words))

-- The verb `heal`: all faults, or one by its number.
abbrev pub heal_of : List (List ℕ) → Option Happening
heal_of [] = Some DisarmAll
heal_of (number ∷ []) = option_map (λ n. Disarm n) (number_up_to (max_faults - 1) number)
heal_of operands = None
