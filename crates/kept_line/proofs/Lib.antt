-- The laws and theorems of this crate.
pub mod Calls
pub mod Done
pub mod Wrong
