-- Laws of what is written into a buffer and appended to a text, and of numbers in decimal.
pub mod Writes
pub mod Digits
