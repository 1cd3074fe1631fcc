-- What the contracts of this crate cite: definitions, then their laws, then the theorems about the pairs and the marks, and wrong escapes.
pub mod Escape
pub mod EscapeLaws
pub mod Pairs
pub mod Frame
pub mod FrameLaws
pub mod Write
pub mod WriteLaws
pub mod Marks
pub mod Wrong
