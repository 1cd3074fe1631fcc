-- What the contracts of this crate cite, the runs that the promises speak of, the promises, and below them their proofs.
pub mod Record
pub mod Kept
pub mod Promises
