pub mod Kinds
pub mod Refused
