-- What a number under way has counted. No clause of a public call names these.
pub mod Counters
