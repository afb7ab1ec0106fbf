pub mod TidiedWhole
pub mod SameNil
pub mod Machine
