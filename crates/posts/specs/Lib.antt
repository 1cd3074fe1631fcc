-- A board that waits for the start text, and a host's end that counts.
pub mod Post
pub mod PostLaws
pub mod Caller
pub mod View
pub mod Agreed
pub mod AgreedLaws
pub mod Piece
pub mod PieceLaws
