-- The laws and theorems of this crate.
pub mod Beside
pub mod KeptLaws
pub mod KeptRun
