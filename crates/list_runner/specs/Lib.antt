pub mod Lists
pub mod Run
pub mod Encode
