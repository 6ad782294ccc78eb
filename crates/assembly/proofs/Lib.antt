-- Laws that several proofs share.
pub mod Widths
pub mod Addresses
pub mod Preparing
pub mod Fetching
pub mod Written
pub mod Triangles
pub mod CornerLists
