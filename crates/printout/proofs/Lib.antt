-- Laws of a job's printout.
pub mod Jobs
