-- What nobody has to believe: these definitions are cited by proofs and private contracts alone.
pub mod Arena
pub mod Lends
pub mod Links
pub mod Rings
pub mod Slots
