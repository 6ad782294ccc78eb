pub mod Decode
pub mod Fetch
pub mod Examples
pub mod FetchCode
