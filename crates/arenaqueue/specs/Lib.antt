pub mod Queued
pub mod Numbers
pub mod inner
