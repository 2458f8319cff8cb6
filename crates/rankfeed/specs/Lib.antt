pub mod Items
pub mod Answers
pub mod Rings
pub mod inner
