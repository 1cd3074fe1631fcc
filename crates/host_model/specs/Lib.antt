-- The rules of a load, apart from any session: its stages (Stages), what an answer of the module does (Answers, Moves), what is sent
-- (Messages), what a session waits for (Waits), what follows an event (Nexts), what a caller reads from a session (Views) and from an
-- answer (Events); the laws of each stand beside it.
pub mod Stages
pub mod Rates
pub mod Wishes
pub mod Answers
pub mod Messages
pub mod Waits
pub mod Nexts
pub mod Views
pub mod Events
pub mod Small
pub mod SmallNexts
