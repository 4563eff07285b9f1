-- What checks find, one after the other.
pub mod Steps
