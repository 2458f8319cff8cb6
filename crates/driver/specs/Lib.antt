pub mod VerdictContract
pub mod OutputContract
pub mod Threads
pub mod Along
pub mod Runs
pub mod Texts
pub mod inner
