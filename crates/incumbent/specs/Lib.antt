-- What a search holds, and the ranking of two plans by it.
pub mod Ranks
pub mod Held
