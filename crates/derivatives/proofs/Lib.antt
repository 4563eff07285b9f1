-- The laws of the pass down and of the drops.
pub mod Transposing
pub mod RootWeights
pub mod Summing
pub mod Leaving
pub mod Deriving
