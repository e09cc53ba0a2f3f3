pub mod Limits
pub mod All
pub mod Refusals
pub mod Sets
