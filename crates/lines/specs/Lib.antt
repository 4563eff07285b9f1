-- The open lines of a plan, and the array that has them for a search.
pub mod Open
pub mod Laid
