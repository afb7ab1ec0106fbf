-- What the steps of a call have found of a value or a description. No clause of a public call names these.
pub mod Elements
pub mod Saying
pub mod SaidId
pub mod Tidied
pub mod Begins
