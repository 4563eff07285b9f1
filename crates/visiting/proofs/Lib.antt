-- Laws of a visit.
pub mod OpenLines
pub mod Tallying
pub mod Branching
pub mod VisitSteps
