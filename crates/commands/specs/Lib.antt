-- The commands and answers of document 001, and their laws.
pub mod Commands
pub mod CommandsLaws
