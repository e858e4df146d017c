-- Data-in within its length: a longer allocation length cuts nothing more.
use Rattle.std.proofs.Common.{◌≡◌, ◌≤◌, ℕ, min, List, length, take, Option, Some, None, refl, ap, sym}
use Rattle.std.proofs.Common.{Bool, true, false}
use Rattle.std.proofs.Common.{◌∙◌, arith, lit≤}
use Rattle.std.proofs.lemmas.List.{take_min}
use Rattle.sg_wire.specs.FirstBytes.{first_bytes}
use Rattle.sg_wire.specs.SenseData.{sense_data}
use Rattle.sg_wire.specs.declared.sense.Format.{Format}
use Rattle.sg_wire.specs.declared.sense.Format.TheVariants.{Fixed, Descriptor}
use Rattle.sg_pages.specs.CapacityData.{capacity_10}
use Rattle.sg_units.specs.declared.unit_attention.UnitAttention.{UnitAttention}
use Rattle.sg_target.specs.DataInBound.{longest_sense}
use Rattle.sg_target.specs.Refusal.{pending_sense}

pub cut-within : (most n : ℕ) (full : List ℕ) → length full ≤ most
    → first_bytes (min most n) full ≡ first_bytes n full
cut-within most n full h =
    let least : min (min most n) (length full) ≡ min n (length full) = omega arith in
    sym (take_min (min most n) full) ∙ ap (λ k. take k full) least ∙ take_min n full

-- the same with the limit as it was computed
pub cut-at : (limit most n : ℕ) (full : List ℕ) → limit ≡ min most n → length full ≤ most
    → first_bytes limit full ≡ first_bytes n full
cut-at limit most n full e h = ap (λ k. first_bytes k full) e ∙ cut-within most n full h

-- READ CAPACITY(10) parameter data is whole
pub whole-capacity_10 : (capacity : ℕ) → first_bytes 8 (capacity_10 capacity) ≡ capacity_10 capacity
unfolding capacity_10
whole-capacity_10 capacity = refl

-- a unit attention has neither INFORMATION nor a field pointer, and neither has a stopped unit
pub sense-within : (format : Format) (stopped : Bool) (condition : Option UnitAttention)
    → length (sense_data format (pending_sense stopped condition)) ≤ longest_sense
unfolding sense_data
sense-within Fixed true None = lit≤ tt
sense-within Fixed false None = lit≤ tt
sense-within Fixed stopped (Some condition) = lit≤ tt
sense-within Descriptor true None = lit≤ tt
sense-within Descriptor false None = lit≤ tt
sense-within Descriptor stopped (Some condition) = lit≤ tt

pub ruleset data_lengths = (whole-capacity_10, sense-within)
