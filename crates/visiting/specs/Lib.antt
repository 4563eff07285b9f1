-- What a visit is handed and what it leaves.
pub mod Visit
