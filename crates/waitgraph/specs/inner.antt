-- What nobody has to believe: these definitions are cited by proofs and private contracts alone.
pub mod Least
pub mod Loose
pub mod PendingLoose
pub mod Scenes
pub mod Buckets
pub mod SinkTables
pub mod Held
pub mod Causes
pub mod Graphs
pub mod Verdicts
pub mod Spans
pub mod Stuck
pub mod Waits
pub mod Agreed
pub mod Among
