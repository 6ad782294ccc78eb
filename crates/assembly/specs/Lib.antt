pub mod Triangles
pub mod ElementsCode
pub mod CornersCode
