-- The lines that the functions of the printout write.
pub mod Lines
