-- What the exported functions hand back, as numbers.
pub mod Numbers
