-- The marks by position, the arcs in force, the pass that computes the values of nodes, what leaving a line loses, and what a table and a plan come to.
pub mod Passes
pub mod Valued
