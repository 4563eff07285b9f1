-- Laws for the proofs of this crate's functions: positions in an array.
pub mod Positioning
