-- What contracts see of a session, of the two ends of a stream, of the bytes that wait, of a reader and of a writer.
pub mod Reads
pub mod SessionLaws
pub mod Session
pub mod Waiting
pub mod ReaderOf
pub mod Reader
pub mod Ends
pub mod Writing
