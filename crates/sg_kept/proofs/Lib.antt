-- Blocks.
mod BlocksLemmas
-- Changes that apply, and those of each operation.
mod AppliedLemmas
mod OperationLemmas
-- The changes of each happening.
mod HappeningLemmas
-- The changes of each command: those of the table of faults, and all.
mod TableLemmas
mod CommandLemmas
-- Records that are added to a batch.
mod RecordingLemmas
mod RefusedLemmas
-- The operation that a command has executed.
mod ExecutedLemmas
-- Which disk a file stands for.
pub mod OpenedLemmas
pub mod MomentsLemmas
pub mod ServingLemmas
mod OpeningLemmas
mod SteadyLemmas
-- Histories.
pub mod HistoryLemmas
-- A file that is written afresh.
pub mod CompactionLemmas
