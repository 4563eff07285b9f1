-- The demands of the briefing, and what is said of kits and roots, proved.
pub mod Completing
pub mod Answers
pub mod Saying
pub mod Rows
pub mod Deciding
pub mod Demanded3
pub mod Demanded2
pub mod Demanded1
pub mod Charged
pub mod Alike
pub mod Served
pub mod Rooted
