-- The laws and theorems of this crate.
pub mod TextLaws
