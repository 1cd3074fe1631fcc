-- A block read (Block), written (Pack), the walk over a file (Walk), each with its laws; what their answers say in numbers (Answers).
pub mod Block
pub mod Walk
pub mod Pack
pub mod Room
pub mod Answers
