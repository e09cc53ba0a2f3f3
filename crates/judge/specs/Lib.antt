pub mod Verdict
pub mod Judge
pub mod Judging
pub mod Rows
