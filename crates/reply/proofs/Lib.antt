pub mod WholeLaws
pub mod ReplyLaws
