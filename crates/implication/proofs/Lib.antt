-- Laws for the proofs of this crate's functions.
pub mod Pairing
pub mod Digits
pub mod Cells
pub mod Stacking
