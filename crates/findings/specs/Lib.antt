pub mod Places
pub mod Findings
pub mod inner
