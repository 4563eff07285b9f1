-- Laws for the proofs of this crate's functions: what the parts of the checks decide, what reading answers, and what is known of an accepted file.
pub mod Shaping
pub mod Outcomes
pub mod Accepted
