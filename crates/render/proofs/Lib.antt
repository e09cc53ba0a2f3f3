pub mod DecodeLaws
pub mod ByteLaws
pub mod CodeLaws
pub mod RecordLaws
pub mod ReadBack
pub mod Examples
