-- The step that the contracts cite (Reader), what a byte does to a reader (Moves), and the room that a content byte has (MovesLaws).
pub mod Moves
pub mod MovesLaws
pub mod Reader
