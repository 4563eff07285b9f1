-- Laws of path weights, of the nodes and arcs in order, and of the layout of a search.
pub mod Weights
pub mod Flows
pub mod Summing
pub mod Ordering
pub mod Weighing
pub mod Numbering
pub mod Laying
pub mod Arranging
pub mod Ordered
