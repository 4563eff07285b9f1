-- The numbers that the papers give to the kinds of words and to refusals.
pub mod Numbers
