-- What a result of 0 says.
pub mod Zero
