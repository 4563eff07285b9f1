-- What the enums of this crate stand for.
pub mod Answer
