pub mod Apart
pub mod Counting
pub mod Calls
