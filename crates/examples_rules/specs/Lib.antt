pub mod Indices
pub mod Rules
