-- Laws of the words of a table file.
pub mod Words
