-- The definitions that public contracts cite: the maximal runs, the cost of a call by them, and the
-- state of a `BlockMap`. Runs over chains of slots define this state.
pub mod MaximalRuns
pub mod RunLaws
pub mod RunCost
pub mod RunCostLaws
pub mod State
pub mod Parts
pub mod Runs
-- The definitions that only private contracts cite: how the calls gather, split, walk over, cut,
-- join and overwrite runs, and the counts of each step.
pub mod Metering
pub mod RunsProps
pub mod Gathering
pub mod Splitting
pub mod Walking
pub mod Cutting
pub mod Joining
pub mod Overwriting
pub mod Status
