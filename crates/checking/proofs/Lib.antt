-- Laws for the proofs of this crate's functions: numbers of a file's first variables.
pub mod Counting
