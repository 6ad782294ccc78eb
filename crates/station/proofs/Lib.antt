pub mod Back
pub mod Histories
pub mod Parts
