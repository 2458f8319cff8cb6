pub mod Relays
pub mod Channels
pub mod inner
