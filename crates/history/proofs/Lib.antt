pub mod Replay
pub mod Demand3
