-- The runs and the table that the promises speak of, the promises, and below them their proofs: the reader as the promises see it
-- (Seen), what a wire form brings (Feed), and a file for each promise; then wrong readers (Wrong), and wrong wire forms, writers and
-- builders (WrongWriter), each with a promise that it breaks.
pub mod Runs
pub mod Table
pub mod Promises
pub mod Seen
