-- Both ends joined by any line (Joined), by one that loses nothing (Lossless), and a board fed bytes (Feeds); what they promise
-- (Promises); and below that the proofs. L1: how much of an image is in a flash (Filled), how all stands together (Stand), the moves of
-- each end, and File. L2: Load. L3: Noise. Both of these use TransferLaws.
pub mod Steps
pub mod Joined
pub mod Wired
pub mod Lossless
pub mod Feeds
pub mod Promises
