-- Laws that several proofs share.
pub mod Bounds
pub mod Slots
pub mod Free
pub mod Laws
pub mod Naming
pub mod Binding
pub mod Removal
pub mod Generation
pub mod Bytes
pub mod Targets
pub mod Uploads
pub mod Deciding
