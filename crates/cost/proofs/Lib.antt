-- Laws of kits and costs.
pub mod Kits
pub mod Steps
