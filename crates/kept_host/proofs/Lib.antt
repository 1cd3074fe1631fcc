-- The laws and theorems of this crate.
pub mod Back
pub mod KeptLaws
pub mod Run
