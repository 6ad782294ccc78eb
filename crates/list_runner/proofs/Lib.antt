pub mod Calls
pub mod Running
pub mod Encode
