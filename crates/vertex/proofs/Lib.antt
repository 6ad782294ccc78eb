pub mod IndexLists
pub mod Search
pub mod Questions
pub mod Sources
pub mod Vertices
