pub mod ColumnLaws
pub mod NameLaws
pub mod PlaceLaws
pub mod UnpackedLaws
