pub mod PrefixLemmas
pub mod RisingLemmas
pub mod ViewLemmas
pub mod PassedLemmas
pub mod AheadLemmas
pub mod TokenValues
pub mod TokenSteps
pub mod TokenWalks
