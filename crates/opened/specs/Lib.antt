-- What an opened table says of its file.
pub mod Numbers
