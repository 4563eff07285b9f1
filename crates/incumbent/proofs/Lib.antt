-- Laws of what a search holds.
pub mod Keeping
