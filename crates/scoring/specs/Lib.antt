-- What the enum of this crate stands for.
pub mod Answer
