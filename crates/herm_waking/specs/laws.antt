pub mod ClockLaws
pub mod EntryLaws
pub mod NumberLaws
pub mod ReportLaws
pub mod RoundLaws
pub mod UnnamedLaws
pub mod WakingLaws
pub mod WorldLaws
