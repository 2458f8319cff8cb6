pub mod FindingLemmas
pub mod WaveLemmas
pub mod CallerLemmas
pub mod AlikeLemmas
pub mod NothingLemmas
