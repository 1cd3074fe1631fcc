-- What the contracts of this crate cite of the session (Session, Step), and the laws of each.
pub mod Session
pub mod Step
pub mod SessionLaws
pub mod StepLaws
