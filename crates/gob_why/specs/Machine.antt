-- Where the reading of a stream stands. No clause of a public call names these.
pub mod Keeping
pub mod Reading
pub mod Sending
