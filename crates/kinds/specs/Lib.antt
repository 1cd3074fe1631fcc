-- What the contracts of this crate cite, and its laws.
pub mod Kinds
pub mod KindsLaws
