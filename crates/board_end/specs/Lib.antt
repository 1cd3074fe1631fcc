-- A board fed bytes.
pub mod Board
