-- What nobody has to believe: these definitions are cited by proofs and private contracts alone.
pub mod Closes
pub mod Collected
pub mod Collectors
pub mod Receipts
pub mod Takers
