-- A lane without noise.
pub mod Lanes
pub mod LanesLaws
