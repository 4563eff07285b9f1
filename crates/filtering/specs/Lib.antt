-- What the filter works on, and what its enum stands for.
pub mod Forced
pub mod Answer
