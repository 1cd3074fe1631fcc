-- The laws and theorems of this crate.
pub mod BoardMoves
pub mod Filled
pub mod HostMoves
pub mod Load
pub mod Noise
pub mod Stand
pub mod StepsLaws
pub mod TransferLaws
pub mod Wires
pub mod File
