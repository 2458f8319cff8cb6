pub mod Arena
pub mod Lends
pub mod inner
