-- The numbers of a file that have a limit.
pub mod Limited
