-- The cells and the layers of a search.
pub mod Cells
pub mod Layers
