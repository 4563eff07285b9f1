-- Laws for the proofs of this crate's functions.
pub mod Choosing
pub mod Shape
pub mod Columns
pub mod Rooting
pub mod Padding
pub mod Kits
pub mod Finding
pub mod Standing
