-- Laws of the visit rule and of the ranking.
pub mod Opening
pub mod Ruling
pub mod Instance
pub mod Visiting
pub mod Order
pub mod First
