pub mod HeadToHeadLemmas
pub mod InMemoryLemmas
pub mod LintInMemory
pub mod JudgeInMemory
pub mod MadeLemmas
pub mod CloseInMemory
