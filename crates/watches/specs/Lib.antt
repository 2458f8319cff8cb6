pub mod Stands
pub mod Stored
pub mod Publications
pub mod Published
pub mod Boards
pub mod Watches
pub mod Publishers
pub mod inner
