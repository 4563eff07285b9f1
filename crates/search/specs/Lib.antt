-- What a search leaves, and what the enum of this crate stands for.
pub mod Searched
pub mod Answer
