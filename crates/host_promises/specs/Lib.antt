-- The runs of the host, what it promises of them, and below that the proofs: every step is one of the turns (Turns), the sessions that
-- arise are those that are reached (Arises, Reach), a load that is answered well goes to its end (Forward, Load), document 01's bench.
pub mod Runs
pub mod Promises
