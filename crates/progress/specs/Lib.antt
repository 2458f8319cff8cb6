pub mod Lines
pub mod Updates
pub mod inner
