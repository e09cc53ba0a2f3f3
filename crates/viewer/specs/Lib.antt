pub mod Film
pub mod RepresentsFilm
pub mod Answers
pub mod Viewed
pub mod Views
pub mod Lines
pub mod Showing
pub mod Examples
