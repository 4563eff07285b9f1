-- The laws of the filter.
pub mod ForcedLines
pub mod Serving
