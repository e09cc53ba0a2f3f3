pub mod Code
pub mod Trees
pub mod Encoded
pub mod Count
pub mod Lines
pub mod Events
