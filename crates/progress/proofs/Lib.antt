pub mod EarliestLemmas
pub mod UpdateLemmas
