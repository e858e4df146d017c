-- What a command costs: a target's store is charged for the ranges that the command goes over.
use Rattle.std.specs.Prelude.{◌≡◌, ℕ, ◌+◌, ◌*◌, ◌<◌, ◌≤◌, List, [], ◌∷◌, length, if◌then◌else◌}
use Rattle.std.specs.Prelude.{Result}
use Rattle.sg_store.specs.Disk.{Contents}
use Rattle.sg_store.specs.Meter.{Meter, probe_bound}
use Rattle.sg_target.specs.Armed.{Armed, ArmedStep, attempt_by}
use Rattle.sg_target.specs.Ranges.{Range, ranges, ranges_if_passed}
use Rattle.sg_target.specs.Reply.{Carries, CarriesStep}
use Rattle.sg_target.specs.Step.{Step, outcome, with_alert}
use Rattle.sg_target.specs.Target.{TargetFields, disk_of}
use Rattle.sg_target.specs.declared.reply.Reply.{Reply}
use Rattle.sg_target.specs.declared.reply.Status.TheVariants.{Good}
use Rattle.sg_target.specs.Semantics.{effect_of}
use Rattle.sg_target.specs.State.{State}
use Rattle.sg_target.specs.declared.operation.Operation.{Operation}
use Rattle.sg_target.specs.declared.refusal.Refusal.{Refusal}

-- The visits that a call of a store over a range may or must make, by the used addresses, the
-- address and the count.
abbrev pub Cost : Type 0
Cost = Contents → ℕ → ℕ → ℕ

-- The most visits, and the least if the call succeeds.
pub record CostBounds : Type 0 where
  pub price : Cost
  pub least : Cost

abbrev pub cost_bounds : (price least : Cost) → CostBounds
cost_bounds price least = record { price = price; least = least }

-- The costs of ranges, together.
abbrev pub sum_over : Cost → List Range → ℕ
sum_over cost [] = 0
sum_over cost (range ∷ rest) = cost range.contents range.lba range.count + sum_over cost rest

-- The same without the ranges that are only counted: if these overlap, one visit may serve several.
abbrev pub least_over : Cost → List Range → ℕ
least_over cost [] = 0
least_over cost (range ∷ rest) =
    (if range.counted then 0 else cost range.contents range.lba range.count) + least_over cost rest

-- Two more than the blocks of each range, together.
abbrev pub visit_bound : List Range → ℕ
visit_bound [] = 0
visit_bound (range ∷ rest) = range.count + 2 + visit_bound rest

-- The counts are restarted once for a command that goes over a range, and for no other command.
abbrev pub restarts_for : List Range → ℕ
restarts_for [] = 0
restarts_for (range ∷ rest) = 1

-- A command over these ranges is charged from meter to meter, by the counts of its reply.
pub record IsCharged (bounds : CostBounds) (pool : ℕ) (over : List Range)
    (before after : Meter) (reply : Reply) : Type 0 where
  -- at most what its ranges may cost, so nothing without a range
  pub visits : reply.counts.visits ≤ sum_over bounds.price over
  pub probes : reply.counts.probes ≤ probe_bound * length over
  pub links : reply.counts.links ≤ pool * length over
  -- at least what they cost a command that ends GOOD
  pub least : reply.status ≡ Good → least_over bounds.least over ≤ reply.counts.visits
  -- just what the store's total, which no restart lowers, has risen by
  pub visited : after.total ≡ before.total + reply.counts.visits
  -- the store's counts as the command ends, since its one restart
  pub counted : 0 < length over → reply.counts ≡ after.counts
  pub restarts : after.restarts ≡ before.restarts + restarts_for over
  -- without a range the store counts nothing
  pub idle : over ≡ [] → after ≡ before

-- A CDB of an initiator, with its data-out, was executed, and is charged.
pub record ChargesCommand (bounds : CostBounds) (initiator : ℕ) (cdb data_out : List ℕ)
    (old new : TargetFields) (reply : Reply) : Type 0 where
  -- what the store did is charged for the ranges of the command
  pub charge : IsCharged bounds old.state.disk.pool (ranges (disk_of old) initiator cdb data_out)
      old.meter new.meter reply
  -- at most two visits more than blocks are made for each range
  pub visits : reply.counts.visits ≤ visit_bound (ranges (disk_of old) initiator cdb data_out)

-- ---- Cited only by private contracts

-- The step of an operation that has passed the checks of its command: without the alert of a threshold, and
-- with it.
abbrev pub step_before_alert : State → (initiator : ℕ) → Operation → Step
step_before_alert state initiator operation =
    outcome state initiator (effect_of state initiator operation)

abbrev pub step_by : State → (initiator : ℕ) → Operation → Step
step_by state initiator operation =
    with_alert state initiator (step_before_alert state initiator operation)

-- A target takes a step that goes over ranges of blocks.
pub record TakesStep (bounds : CostBounds) (done : Step) (over : List Range)
    (old new : TargetFields) (reply : Reply) (buffer buffer' : List ℕ) : Type 0 where
  pub answer : Carries done.answer reply buffer buffer'
  pub state : new.state ≡ done.state
  pub faults : new.faults ≡ old.faults
  pub charge : IsCharged bounds old.state.disk.pool over old.meter new.meter reply

-- The same on a disk with armed faults.
pub record TakesArmedStep (bounds : CostBounds) (done : ArmedStep) (over : List Range)
    (old new : TargetFields) (reply : Reply) (buffer buffer' : List ℕ) : Type 0 where
  pub answer : CarriesStep done reply buffer buffer'
  pub after : disk_of new ≡ done.after
  pub charge : IsCharged bounds old.state.disk.pool over old.meter new.meter reply

abbrev pub armed_ranges : Armed → (initiator : ℕ) → (cdb : List ℕ) → Result Operation Refusal
    → List Range
armed_ranges disk initiator cdb checked =
    ranges_if_passed disk.state (attempt_by disk initiator cdb checked).result

-- A store has counted no more than ranges may cost, since a restart.
pub record IsWithinPrice (bounds : CostBounds) (pool : ℕ) (over : List Range)
    (before after : Meter) : Type 0 where
  pub visits : after.counts.visits ≤ sum_over bounds.price over
  pub probes : after.counts.probes ≤ probe_bound * length over
  pub links : after.counts.links ≤ pool * length over
  pub visited : after.total ≡ before.total + after.counts.visits
  pub restarts : after.restarts ≡ before.restarts

-- The store has gone over ranges in turn: it has also counted no less than they cost at least.
pub record IsCounted (bounds : CostBounds) (pool : ℕ) (over : List Range)
    (before after : Meter) : Type 0 where
  pub charge : IsWithinPrice bounds pool over before after
  pub least : least_over bounds.least over ≤ after.counts.visits
