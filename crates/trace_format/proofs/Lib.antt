pub mod Records
pub mod Filling
