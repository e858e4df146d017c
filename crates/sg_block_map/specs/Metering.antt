-- The counts of the steps of a call: the records that it visits, and the links that it follows.
use Rattle.std.specs.Prelude.{◌≡◌, ℕ, ◌+◌, ◌-◌, ◌≤◌, length}
use Rattle.sg_pool.specs.Slots.{Slots, followed}
use Rattle.sg_table.specs.Search.{CostsSearch}
use Rattle.sg_table.specs.Table.{Table, visited, probed}

-- The step visits records, from `at_least` to `at_most` of them.
pub record VisitsBetween (at_least at_most : ℕ) (before after : Table) : Type 0 where
  pub fewest_visits : before.total + at_least ≤ after.total
  pub most_visits : after.total ≤ before.total + at_most

-- The same, and the rest of the table stays.
pub record Visits (at_least at_most : ℕ) (before after : Table) : Type 0 where
  pub table : after ≡ visited before (after.total - before.total)
  pub between : VisitsBetween at_least at_most before after

-- The step compares addresses in one binary search of the table, and then visits records.
pub record SearchesAndVisits (at_least at_most : ℕ) (before after : Table) : Type 0 where
  pub table : after
      ≡ visited (probed before (after.probes - before.probes)) (after.total - before.total)
  pub probes_rise : before.probes ≤ after.probes
  pub search : CostsSearch (length before.records) (after.probes - before.probes)
  pub between : VisitsBetween at_least at_most before after

-- The step follows links, at most `at_most` of them.
pub record FollowsLinks (at_most : ℕ) (before after : Slots) : Type 0 where
  pub links_rise : before.links ≤ after.links
  pub most_links : after.links ≤ before.links + at_most

-- The same, and the rest of the pool stays.
pub record OnlyFollows (at_most : ℕ) (before after : Slots) : Type 0 where
  pub pool : after ≡ followed before (after.links - before.links)
  pub follows : FollowsLinks at_most before after

-- The step follows a link only if it passes a mapped address: `ahead` addresses were ahead, and
-- `still_ahead` are.
pub record FollowsPassed (ahead still_ahead : ℕ) (before after : Slots) : Type 0 where
  pub links_rise : before.links ≤ after.links
  pub most_links : after.links + still_ahead ≤ before.links + ahead

-- The same, and the rest of the pool stays.
pub record OnlyFollowsPassed (ahead still_ahead : ℕ) (before after : Slots) : Type 0 where
  pub pool : after ≡ followed before (after.links - before.links)
  pub follows : FollowsPassed ahead still_ahead before after
