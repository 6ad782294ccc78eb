pub mod Adapt
pub mod Lent
pub mod Lends
