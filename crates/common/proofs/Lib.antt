pub mod Bools
pub mod AllLaws
pub mod RefusalLaws
pub mod SetLaws
