-- Where a reader with a stack of open parts has come, what its steps do, and what a builder has made so far.
pub mod Frames
pub mod Kinds
pub mod OpenPath
pub mod Steps
pub mod Running
pub mod BasicParts
pub mod Built
pub mod Stack
pub mod Received
pub mod Nil
