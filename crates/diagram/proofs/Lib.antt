-- Laws about the meaning, for the proofs of every crate above.
pub mod Every
pub mod Places
pub mod Checked
pub mod Truth
pub mod Locality
pub mod Implication
pub mod FirstVariable
pub mod Rising
pub mod LeastPassing
pub mod Starred
