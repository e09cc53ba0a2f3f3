pub mod Roles
pub mod Table
pub mod Meets
pub mod Judged
pub mod Met
