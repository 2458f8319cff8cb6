-- What nobody has to believe: these definitions are cited by proofs and private contracts alone.
pub mod Ascending
pub mod Holdings
pub mod Joined
pub mod Kept
pub mod Matched
pub mod Probed
pub mod Probing
pub mod Seated
pub mod Starts
pub mod Tables
