-- Laws of a visit's walk over a layer.
pub mod Walking
