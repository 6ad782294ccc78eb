pub mod Scene
pub mod Index
pub mod Vertex
pub mod Questions
pub mod SceneCode
