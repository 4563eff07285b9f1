-- The visit rule over any bound.
pub mod Rule
