pub mod Meaning
pub mod Ids
pub mod Reading
pub mod Honest
pub mod Machine
pub mod Calls
pub mod GoStepping
pub mod Whole
