-- The laws and theorems of this crate.
pub mod Arises
pub mod Bench
pub mod Forward
pub mod Load
pub mod Reach
pub mod Turns
