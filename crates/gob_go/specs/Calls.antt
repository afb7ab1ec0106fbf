-- The words in which contracts speak of a session, and of a reader.
pub mod Session
pub mod Reader
