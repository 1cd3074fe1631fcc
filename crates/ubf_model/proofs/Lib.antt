-- The laws and theorems of this crate.
pub mod BlockLaws
pub mod PackLaws
pub mod WalkLaws
