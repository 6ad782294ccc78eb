pub mod Settings
pub mod Stacks
pub mod Permitted
pub mod Readable
pub mod Draws
pub mod Examples
