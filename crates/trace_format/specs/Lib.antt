pub mod Trace
pub mod Fill
pub mod Calls
pub mod Decoded
