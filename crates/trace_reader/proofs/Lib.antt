pub mod Going
pub mod Reading
