-- The cost of the calls of a store.
use Rattle.std.specs.Prelude.{◌≡◌, ℕ, ◌+◌, ◌^◌, ◌≤◌, Result, OnOk}
use Rattle.sg_store.specs.declared.store.Counts.{Counts}

-- The counts since the last restart, the visits to map records since the store was made, and the
-- number of restarts. No restart lowers these visits.
pub record Meter : Type 0 where
  pub counts : Counts
  pub total : ℕ
  pub restarts : ℕ

abbrev pub no_counts : Counts
no_counts = record { visits = 0; probes = 0; links = 0 }

-- Nothing was counted yet.
abbrev pub new_meter : Meter
new_meter = record { counts = no_counts; total = 0; restarts = 0 }

-- Counting begins anew.
abbrev pub restarted : Meter → Meter
restarted meter = record { counts = no_counts; total = meter.total; restarts = meter.restarts + 1 }

-- The most that a count may have reached before a call.
abbrev pub max_count : ℕ
max_count = 2 ^ 62

-- The counts of a call can be added without overflow.
pub record HasHeadroom (counts : Counts) : Type 0 where
  pub visits : counts.visits ≤ max_count
  pub probes : counts.probes ≤ max_count
  pub links : counts.links ≤ max_count

-- The most addresses that a call over a range compares.
abbrev pub probe_bound : ℕ
probe_bound = 64

-- The counts of a call over a range beside its price. Each visit is in the total as well. At most
-- `probe_bound` addresses are compared. At most as many links are followed as the pool has blocks.
-- The counts are not restarted.
pub record Costs (pool : ℕ) (before after : Meter) : Type 0 where
  pub visits : after.counts.visits + before.total ≡ before.counts.visits + after.total
  pub visits_rise : before.total ≤ after.total
  pub probes_rise : before.counts.probes ≤ after.counts.probes
  pub probes : after.counts.probes ≤ before.counts.probes + probe_bound
  pub links_rise : before.counts.links ≤ after.counts.links
  pub links : after.counts.links ≤ before.counts.links + pool
  pub restarts : after.restarts ≡ before.restarts

-- All costs of a call over a range. It visits at most `at_most` records and at least `at_least`.
pub record Charged (pool at_most at_least : ℕ) (before after : Meter) : Type 0 where
  pub cost : Costs pool before after
  pub price : after.total ≤ before.total + at_most
  pub least : before.total + at_least ≤ after.total

-- All costs of a call that can fail. It visits at least `at_least` records if it succeeds.
pub record ChargedOnOk {T E : Type 0} (result : Result T E) (pool at_most at_least : ℕ)
    (before after : Meter) : Type 0 where
  pub cost : Costs pool before after
  pub price : after.total ≤ before.total + at_most
  pub least : OnOk result (before.total + at_least ≤ after.total)
