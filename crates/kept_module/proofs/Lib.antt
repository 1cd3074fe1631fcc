-- The laws and theorems of this crate.
pub mod CallLaws
pub mod KeptLaws
pub mod RunLaws
