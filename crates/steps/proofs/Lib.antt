-- Laws for checks as steps.
pub mod Stepping
