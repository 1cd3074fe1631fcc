-- The promises, a file of proof for each, and programs that break them, tried on a tiny block.
pub mod Promises
