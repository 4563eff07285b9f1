-- What is appended to a text.
pub mod Wrote
