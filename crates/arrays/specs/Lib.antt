-- Lists in arrays.
pub mod Arrays
