pub mod WriteLaws
pub mod PaddedLaws
pub mod BlankLaws
pub mod WordLaws
