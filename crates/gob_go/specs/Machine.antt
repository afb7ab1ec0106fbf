-- Where a session stands in a stream, and what its steps answer.
pub mod SessionState
pub mod Skeleton
pub mod Levels
pub mod HasRead
pub mod Parts
pub mod Stages
pub mod Held
pub mod WholeFilled
