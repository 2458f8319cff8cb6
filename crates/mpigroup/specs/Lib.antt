pub mod Groups
pub mod Codes
pub mod HeadText
pub mod Heads
pub mod Splits
pub mod inner
