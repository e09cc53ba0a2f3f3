pub mod Name
pub mod Shape
pub mod Place
pub mod Unpacked
