-- The laws and theorems of this crate.
pub mod Due
pub mod Laid
pub mod Leads
pub mod Outcomes
pub mod PhasesLaws
pub mod Replies
pub mod RulesLaws
