pub mod Calls
pub mod Loss
pub mod Machine
pub mod Numbered
pub mod Received
