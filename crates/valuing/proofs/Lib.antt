-- Laws about the marks by position, the arcs in force, the pass up, the sum over the roots, and what leaving a line loses.
pub mod Forcing
pub mod Passing
pub mod Bounding
pub mod RootSums
pub mod Gaining
pub mod Valuing
