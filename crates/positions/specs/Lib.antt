pub mod Past
pub mod Matcher
pub mod Numbers
pub mod Positions
pub mod Walk
pub mod Summaries
