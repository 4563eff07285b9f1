-- Laws for the checks of what comes with a file.
pub mod Marks
pub mod FullPlans
pub mod Checking
pub mod Requests
pub mod Serving
