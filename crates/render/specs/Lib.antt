pub mod Records
pub mod Decoded
