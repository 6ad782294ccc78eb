-- Laws that several proofs share.
pub mod Parts
pub mod Extents
