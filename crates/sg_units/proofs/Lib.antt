-- Unit attentions.
pub mod ConditionLemmas
pub mod AttentionLemmas
-- PERSISTENT RESERVE IN.
pub mod PartLemmas
pub mod LengthLemmas
-- PERSISTENT RESERVE OUT.
pub mod OutcomeLemmas
pub mod ConsistencyLemmas
pub mod TogetherLemmas
pub mod MoveLemmas
pub mod ConsistentChangeLemmas
-- Power cycles, and the laws.
pub mod PowerLemmas
pub mod RestoredLemmas
pub mod LawLemmas
