pub mod ToldLemmas
pub mod HeldLemmas
pub mod AlongLemmas
pub mod ThreadLemmas
pub mod TurnLemmas
pub mod WholeLemmas
pub mod RunLemmas
pub mod TextLemmas
