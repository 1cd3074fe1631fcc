-- What the contracts of this crate, and of every call that writes, cite.
pub mod Refusals
pub mod Written
