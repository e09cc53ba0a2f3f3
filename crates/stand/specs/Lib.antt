pub mod Operations
pub mod Calls
pub mod Done
pub mod Kinds
pub mod Rounds
pub mod Numbers
pub mod Sheets
