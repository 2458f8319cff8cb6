-- What nobody has to believe: these definitions are cited by proofs and private contracts alone.
pub mod Answers
pub mod Items
