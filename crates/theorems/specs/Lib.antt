-- The demands of the briefing, each one statement, and the words that they are put in; what papers 2 and 3 say of kits and roots.
pub mod Plans
pub mod Reasons
pub mod Demand1
pub mod Demand2
pub mod Demand3
pub mod Kits
pub mod Roots
