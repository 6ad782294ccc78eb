pub mod Done
pub mod Stacks
