pub mod Heads
pub mod Writing
