-- The laws and theorems of this crate.
pub mod AnswersLaws
pub mod MessagesLaws
pub mod Moves
pub mod NextsLaws
pub mod StagesLaws
pub mod WaitsLaws
