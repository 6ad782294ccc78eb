pub mod Living
pub mod Reading
pub mod Drawing
