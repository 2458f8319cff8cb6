-- What nobody has to believe: these definitions are cited by proofs and private contracts alone.
pub mod ArrayTexts
pub mod Printing
pub mod Opened
pub mod HeldTexts
