pub mod MemoryFiles
pub mod HeadToHead
pub mod InMemory
pub mod JournalsInMemory
