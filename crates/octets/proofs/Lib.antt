-- The laws and theorems of this crate.
pub mod OctetsLaws
pub mod Lists
pub mod Choice
pub mod PartLaws
pub mod Words
