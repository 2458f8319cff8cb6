pub mod JsonLemmas
pub mod ArrayLemmas
pub mod SpelledLemmas
pub mod PrintingLemmas
mod PrintedLists
pub mod JudgedLemmas
pub mod OpenedLemmas
