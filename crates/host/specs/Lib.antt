-- What the contracts of this crate cite (Session, Step), and the laws of the step.
pub mod Session
pub mod Step
pub mod StepLaws
