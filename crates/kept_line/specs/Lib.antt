-- Both ends kept as bytes on one line (Called), what their calls promise together (Promises), and the proof: done by its number (Done), and
-- each call as what the line feeds the ends (Calls); wrong calls (Wrong).
pub mod Called
pub mod Promises
