pub mod SizeLaws
pub mod PartLaws
pub mod BatchLaws
pub mod BatchRight
pub mod Exactly
