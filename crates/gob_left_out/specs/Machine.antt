-- What a walk over a value has met. No clause of a public call names these.
pub mod Walk
pub mod Kinds
pub mod Tallying
