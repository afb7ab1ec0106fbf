pub mod Code
pub mod Fields
pub mod Library
pub mod Machine
pub mod Names
pub mod Sight
pub mod Types
