-- Laws of lists one after the other, and of lists kept in arrays.
pub mod Joining
pub mod Chaining
