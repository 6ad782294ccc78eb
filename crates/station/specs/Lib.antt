pub mod Kept
pub mod Boundary
pub mod BoundaryCode
