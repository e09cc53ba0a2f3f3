pub mod Text
pub mod Record
pub mod Records
pub mod Framed
