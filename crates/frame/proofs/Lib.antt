pub mod TextLaws
pub mod FrameLaws
pub mod RecordsLaws
