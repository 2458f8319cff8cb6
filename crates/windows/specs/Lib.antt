pub mod Cuts
pub mod Clean
pub mod Laws
pub mod Chains
pub mod Rows
