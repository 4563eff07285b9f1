-- Laws of lists written to arrays.
pub mod Over
pub mod Copied
