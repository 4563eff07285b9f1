-- Laws about the values of nodes, the weights of arcs and the roots.
pub mod Values
pub mod ByArc
pub mod Arcing
pub mod HeldRoots
