pub mod SizeLaws
pub mod WholeSession
pub mod KindLaws
pub mod RunLaws
pub mod SheetLaws
pub mod HandedOver
pub mod HostSessions
pub mod Demands
