-- What the arrays of this crate hold.
pub mod Nodes
