pub mod Names
pub mod Asked
pub mod Rows
pub mod Machine
pub mod Represents
pub mod Requests
pub mod Asking
pub mod Declaring
