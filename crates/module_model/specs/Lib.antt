-- What the contracts of the crate module cite of phases and rules, answers as numbers, the laws of each, what a frame can do (Outcomes,
-- Leads), what a reply says (Replies), and how a transfer goes on as it should (Due, Laid).
pub mod Phases
pub mod Rules
pub mod Answers
pub mod Bounds
