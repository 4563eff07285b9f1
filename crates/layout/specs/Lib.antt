-- Path weights, what the cells of a search hold, and a table laid out for a search.
pub mod Weights
pub mod Flows
pub mod Weighed
pub mod Layout
