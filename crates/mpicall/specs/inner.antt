-- What nobody has to believe: these definitions are cited by proofs and private contracts alone.
pub mod Argument
pub mod Cells
pub mod Draft
pub mod Front
pub mod CallArgs
pub mod Line
pub mod Lines
pub mod Often
pub mod Parsing
pub mod Stage
pub mod Window
