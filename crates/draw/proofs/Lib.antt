pub mod Drawing
pub mod Counts
