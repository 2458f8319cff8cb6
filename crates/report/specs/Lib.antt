pub mod FindingTexts
pub mod TextReport
pub mod JsonReport
pub mod Reports
pub mod Judged
pub mod PendingReport
pub mod inner
