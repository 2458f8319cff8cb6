pub mod RelayLemmas
