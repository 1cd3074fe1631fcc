-- What the contracts of this crate cite, its laws, and what it promises.
pub mod Kept
pub mod Promises
