-- Lists of numbers in arrays, and the numbers of arcs.
pub mod Numbers
pub mod Chains
