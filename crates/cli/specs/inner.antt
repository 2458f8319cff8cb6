-- What nobody has to believe: these definitions are cited by proofs and private contracts alone.
pub mod Answer
pub mod CommandLine
pub mod Front
pub mod Openings
pub mod Outputs
pub mod Texts
pub mod Journals
pub mod Options
pub mod Shown
