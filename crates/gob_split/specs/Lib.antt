pub mod Parts
pub mod Text
pub mod Split
pub mod Running
pub mod Machine
pub mod Laws
pub mod Definitions
