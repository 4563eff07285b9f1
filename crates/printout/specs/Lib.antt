-- What is found for a job, as text.
pub mod Found
