pub mod ReadLaws
pub mod RecordLaws
