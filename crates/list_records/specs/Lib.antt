pub mod Encoding
pub mod Perform
