-- Laws of the search.
pub mod Priced
pub mod Starting
pub mod Answering
