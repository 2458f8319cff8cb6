-- What nobody has to believe: these definitions are cited by proofs and private contracts alone.
pub mod LineWindow
pub mod Reader
pub mod Forms
pub mod Fields
pub mod Texts
pub mod Packing
pub mod Places
pub mod Taking
pub mod Naturals
pub mod Marks
pub mod Last
pub mod Numbered
pub mod Notes
pub mod Knows
pub mod Journal
pub mod JournalAnswers
pub mod Remembered
