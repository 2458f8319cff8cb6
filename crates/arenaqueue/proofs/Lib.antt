pub mod NumberLemmas
pub mod SumLemmas
pub mod CellLemmas
pub mod ChainLemmas
pub mod CountingLemmas
pub mod QueueLemmas
