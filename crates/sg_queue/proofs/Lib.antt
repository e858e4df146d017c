mod WaitingLemmas
mod MomentLemmas
