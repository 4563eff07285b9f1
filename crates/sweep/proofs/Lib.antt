-- The laws of what a service answers.
pub mod Serving
