-- The pass down and the drops.
pub mod Down
pub mod Drops
