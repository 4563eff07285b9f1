-- Laws of open lines.
pub mod Listed
pub mod LaidLines
