-- The values of nodes, the weights of arcs, and what the arrays of a table's weights hold.
pub mod Value
pub mod Weights
