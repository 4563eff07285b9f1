-- Check 17 by the positions in an array.
pub mod Positioning
