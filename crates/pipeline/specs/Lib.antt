pub mod Enums
pub mod Pipeline
