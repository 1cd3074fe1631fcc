-- A reply in the front of its buffer.
pub mod Room
pub mod SaidLaws
