-- What the contract of this crate cites, and its laws.
pub mod Hex
pub mod HexLaws
