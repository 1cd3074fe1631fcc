-- The laws and theorems of this crate.
pub mod Laid
pub mod Nth
pub mod PackedRead
pub mod ReadWritten
pub mod Refused
pub mod Tiny
pub mod WrittenRead
pub mod WrongReader
pub mod WrongWalk
pub mod WrongWriter
