-- The checks of what comes with a file, and what they find.
pub mod Request
