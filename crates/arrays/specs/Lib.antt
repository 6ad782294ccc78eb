pub mod Arrays
pub mod Attributes
