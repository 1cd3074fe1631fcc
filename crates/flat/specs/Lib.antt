-- What the contracts of this crate cite, and its laws.
pub mod Answers
pub mod Words
pub mod WordsLaws
pub mod Found
pub mod Backs
pub mod Calls
