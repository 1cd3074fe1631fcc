-- The record (Record), what the contracts of this crate cite (Kept), the promises, and below them their proofs: the calls put together, and a
-- file for each promise.
pub mod Record
pub mod Kept
pub mod Promises
