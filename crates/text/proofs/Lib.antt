-- Laws of the printout's lines.
pub mod Texts
