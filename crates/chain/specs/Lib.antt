pub mod Work
pub mod Duties
pub mod Rename
pub mod Responses
pub mod Steps
pub mod Runs
pub mod Rows
