-- Where a session or a writer stands in a stream, and what its steps answer.
pub mod Denial
pub mod SessionState
pub mod WriterState
pub mod Stages
pub mod HasRead
pub mod ReadParts
pub mod Between
