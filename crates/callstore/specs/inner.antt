-- What nobody has to believe: these definitions are cited by proofs and private contracts alone.
pub mod Entries
pub mod Marks
pub mod Notes
pub mod Packed
pub mod Seats
pub mod PackedFields
