-- The laws and theorems of this crate.
pub mod Bench
pub mod Dropped
pub mod Feed
pub mod Resync
pub mod RoundTrip
pub mod SeenLaws
pub mod Stretches
pub mod Wrong
pub mod WrongWriter
