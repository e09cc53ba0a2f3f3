pub mod Answers
pub mod Outcomes
pub mod Handled
pub mod Sessions
pub mod Marks
