pub mod ContentsLemmas
pub mod RingLemmas
pub mod OwnerLemmas
pub mod LinkLemmas
pub mod EntryLemmas
pub mod ArenaLemmas
pub mod SpliceLemmas
