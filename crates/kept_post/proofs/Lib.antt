-- The laws and theorems of this crate.
pub mod Back
pub mod CallLaws
pub mod KeptLaws
pub mod Wrong
