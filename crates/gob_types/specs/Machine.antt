-- What a table keeps of its types, and how far a search among them has come. No clause of a public call names these.
pub mod Distinct
pub mod Walk
pub mod Kept
pub mod Entered
