pub mod Reply
pub mod Writing
pub mod Columns
pub mod Printed
