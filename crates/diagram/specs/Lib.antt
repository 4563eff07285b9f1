-- The meaning of the planner, section by section as document 01 has it, with what document 02 has changed. Nothing here is about how the program computes.
pub mod Words
pub mod Table
pub mod Score
pub mod Plans
pub mod Ranking
pub mod Visits
pub mod Checks
pub mod Validity
pub mod Services
pub mod Printout
pub mod Starred
