-- The runs that the promises speak of, the promises, and below them their proofs: what a step can be (Steps, Forward), what is heard
-- (Said), what a history has accepted (Track), and a file for each promise; two names spelled out (Readings). Then wrong steps, each
-- refuted by the promise that it breaks: Tiny has the runs, WrongRules the rules, and a file for each of M1 to M5 the refutations.
pub mod Runs
pub mod Promises
