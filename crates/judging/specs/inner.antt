-- What nobody has to believe: these definitions are cited by proofs and private contracts alone.
pub mod Closed
pub mod Cuts
pub mod Heads
pub mod Held
pub mod Known
pub mod OneJournal
pub mod Reported
pub mod Spots
pub mod Tables
pub mod Turns
pub mod Unwritten
