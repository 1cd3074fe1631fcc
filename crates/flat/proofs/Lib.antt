-- The laws that the crates above share.
pub mod Room
