-- What the contracts of this crate cite, and its laws.
pub mod Pieces
pub mod PiecesLaws
